-- What is asked of a certificate that is written, and what is out then.
use Rattle.std.specs.Prelude.{◌≡◌, ℕ, Bool, ◌+◌, ◌<◌, ◌≤◌, List, map, length, take, All, IsTrue, Option, Some, None, IfSome, option_map, Result, Ok, OnOk, OnErr, IsErr}
use Rattle.hex.specs.Hex.{IsBytes}
use Rattle.desk_io.specs.State.{DeskState, written, CannotPut}
use Rattle.desk_io.specs.Faults.{Faults, WriteFails}
use Rattle.desk_io.specs.declared.desk.To.TheVariants.{Cert}
use Rattle.fbas_model.specs.Nodes.{Table, members, size}
use Rattle.fbas_model.specs.Systems.{System}
use Rattle.fbas_model.specs.Restriction.{kept, restricted, closure_of}
use Rattle.greatest_quorum.specs.Greatest.{greatest_of}
use Rattle.lrat_model.specs.Steps.{ProofStep, Database}
use Rattle.lrat_model.specs.Runs.{Run}
use Rattle.lrat_text.specs.Texts.{IsId, HasNumbers, HasLiterals}
use Rattle.cdcl_core.specs.Log.{AreLemmas, EndsEmpty, HasNoEmptyLemma, IsBoundedLog, units}
use Rattle.witness_pair.specs.Making.{shared}
use Rattle.witness_pair.specs.declared.Pair.{Pair}
use Rattle.enumeration_journal.specs.Journals.{JournalLine, Rules, nothing_held, JournalRun, IsOpen, EndsRefuted, sets_in, journal_units}
use Rattle.enumeration_journal.specs.declared.kinds.ListKind.{ListKind}
use Rattle.enumeration_journal.specs.declared.kinds.ListKind.TheVariants as kind
use Rattle.enumeration_journal.specs.Kinds.{HasLists}
use Rattle.enumeration_journal.specs.Order.{ordered}
use Rattle.enumeration_journal.specs.declared.kinds.Listed.{Listed}
use Rattle.enumeration_journal.specs.declared.kinds.Listed.TheVariants as listed
use Rattle.least_journal.specs.Least.{least_of, AreFalling, answer_of as last_listed}
use Rattle.clause_encoder.specs.NameCounter.{counter_vars}
use Rattle.blocking_lists.specs.Lines.{HasLineNumbers, HasFewWords}
use Rattle.blocking_lists.specs.Outcomes.{rules}
use Rattle.node_json.specs.Organisations.{Org, orgs_of}
use Rattle.node_json.specs.Groups.{Group, groups_of, tables_of}
use Rattle.group_journal.specs.Groups.{touching}
use Rattle.group_lists.specs.Search.{group_rules}
use Rattle.reach_kinds.specs.Bodies.{in_shown_order, whole_of}
use Rattle.reach_kinds.specs.declared.kinds.ReachKind.TheVariants.{Nodes, Groups}
use Rattle.reach_kinds.specs.declared.places.Reached.TheVariants as reached
use Rattle.certificate_file.specs.Formulas.{formula_of}
use Rattle.certificate_file.specs.Meaning.{part_from}
use Rattle.certificate_file.specs.declared.given.GivenOrgs.{GivenOrgs}
use Rattle.certificate_file.specs.declared.places.Header.{Header}
use Rattle.certificate_file.specs.declared.places.Subject.{Subject}
use Rattle.certificate_file.specs.declared.places.Aim.{Aim}
use Rattle.certificate_file.specs.declared.places.Aim.TheVariants as aim
use Rattle.certificate_file.specs.declared.places.Conclusion.{Conclusion}
use Rattle.certificate_file.specs.declared.places.Conclusion.TheVariants.{Refutation, Partial, Reached}
use Rattle.cert_writer.specs.Texts.{raised_table}
use Rattle.cert_lines.specs.declared.lines.TheConstants.{MAX_LINES}
use Rattle.clause_encoder.specs.declared.limits.TheConstants.{MOST_VARS}
use Rattle.clause_encoder.specs.declared.version.Version.TheVariants.{Three}
use Rattle.cert_writer.specs.declared.certified.Certified.{Certified}
use Rattle.cert_writer.specs.declared.writer.TheConstants.{BUFFER}

-- the header of a certificate: its node is one of the system, and its faulty nodes are cut to the part
pub record IsHeader (f : System) (h : Header) : Type 0 where
  pub node : IfSome h.from (λ v. v < length f.names)
  pub faulty : length h.faulty ≡ length f.names
  pub cut : shared h.faulty (part_from f h.from) ≡ h.faulty

abbrev pub subject : System → Header → Subject
subject f h = record { version = Three; header = h; nodes = part_from f h.from }

-- the system of the part, and its faulty nodes by their numbers there
abbrev pub part_of : System → Option ℕ → System
part_of f None = f
part_of f (Some v) = restricted (closure_of f.sets v) f

-- the header is one of the whole system, and the part is the one that it names
pub record HasPart (about : Certified) : Type 0 where
  pub header : IsHeader about.whole.now about.header.now
  pub part : about.part.now ≡ part_of about.whole.now about.header.now.from

abbrev pub faulty_in : System → Header → Table
faulty_in f h = kept (part_from f h.from) h.faulty

-- the pair of a part, by the numbers of the whole system
abbrev pub raised_pair : System → Header → Pair → Pair
raised_pair f h p = record { first = raised_table (part_from f h.from) p.first; second = raised_table (part_from f h.from) p.second }

-- how a log ends: with the empty lemma, or without one
abbrev pub EndsAs : Aim → List ProofStep → Type 0
EndsAs aim.Refutation log = EndsEmpty log
EndsAs aim.Partial log = HasNoEmptyLemma log

-- what its certificate shows
abbrev pub shown_by : Aim → List ProofStep → Conclusion
shown_by aim.Refutation log = Refutation
shown_by aim.Partial log = Partial (units log)

-- a log over the formula of the part, which has these many variables and clauses
pub record IsLogOf (f : System) (h : Header) (to : Aim) (vars clauses : ℕ) (log : List ProofStep) : Type 0 where
  pub vars_are : vars ≡ (formula_of f (subject f h)).vars
  pub clauses_are : clauses ≡ (formula_of f (subject f h)).database.last
  pub small : vars ≤ MOST_VARS
  pub some_clause : IsId clauses
  pub new : Database
  pub run : Run vars (formula_of f (subject f h)).database log new
  pub lemmas : AreLemmas vars (formula_of f (subject f h)).database log
  pub bounded : IsBoundedLog vars log
  pub numbers : All HasNumbers log
  pub literals : All HasLiterals log
  pub few : length log + 7 ≤ MAX_LINES
  pub ends : EndsAs to log

-- sets of the part, by the numbers of the whole system
abbrev pub raised_sets : System → Header → List Table → List Table
raised_sets f h sets = map (raised_table (part_from f h.from)) sets

-- how the journal of a list ends: with the empty lemma, or without one
abbrev pub ListEndsAs : ListKind → List JournalLine → Type 0
ListEndsAs kind.Whole journal = EndsRefuted journal
ListEndsAs kind.Partial journal = IsOpen journal

-- the rules of a list of the sets of a kind of the part
abbrev pub rules_in : Listed → System → Header → Rules
rules_in sought f h = rules sought (part_of f h.from).sets (faulty_in f h)

-- what its certificate shows: the sought sets in the order in which they are shown, or the units of its lines
abbrev pub shown_by_list : Listed → System → Header → Rules → ListKind → List JournalLine → Conclusion
shown_by_list sought f h r kind.Whole journal = Reached (whole_of sought (in_shown_order sought (raised_sets f h (sets_in sought journal))))
shown_by_list sought f h r kind.Partial journal = Reached (reached.Partial (Nodes sought) (journal_units r journal))

-- a journal of a list of the part, by the variables of the part's greatest quorum
pub record IsJournalOf (sought : Listed) (f : System) (h : Header) (kind : ListKind) (journal : List JournalLine) : Type 0 where
  pub lists : HasLists sought
  pub new : Database
  pub run : JournalRun (rules_in sought f h) kind nothing_held journal new
  pub numbers : All HasLineNumbers journal
  pub few_words : All (HasFewWords (size (greatest_of (part_of f h.from).sets (faulty_in f h)))) journal
  pub few : length journal + 6 ≤ MAX_LINES
  pub ends : ListEndsAs kind journal

-- the nodes of the greatest quorum of the part, and the rules of a search for a smallest one
abbrev pub greatest_of_part : System → Header → Table
greatest_of_part f h = greatest_of (part_of f h.from).sets (faulty_in f h)

abbrev pub least_rules : System → Header → Rules
least_rules f h = least_of (part_of f h.from).sets (members (faulty_in f h)) (greatest_of_part f h)

-- what its certificate shows: the quorum that is listed last, if one is, or the units of its lines
abbrev pub shown_by_least : System → Header → ListKind → List JournalLine → Conclusion
shown_by_least f h kind.Whole journal = Reached (reached.Least (option_map (raised_table (part_from f h.from)) (last_listed journal)))
shown_by_least f h kind.Partial journal = Reached (reached.Partial (Nodes listed.Smaller) (journal_units (least_rules f h) journal))

-- a journal of a search for a smallest quorum of the part, whose counter is not too large
pub record IsLeastJournalOf (f : System) (h : Header) (kind : ListKind) (journal : List JournalLine) : Type 0 where
  pub small : counter_vars (size (greatest_of_part f h)) ≤ MOST_VARS
  pub new : Database
  pub run : JournalRun (least_rules f h) kind (least_rules f h).start journal new
  pub falls : AreFalling journal
  pub numbers : All HasLineNumbers journal
  pub few_words : All (HasFewWords (counter_vars (size (greatest_of_part f h)))) journal
  pub few : length journal + 7 ≤ MAX_LINES
  pub ends : ListEndsAs kind journal

-- the groups of the part, where these are the organisations
abbrev pub groups_in : System → Header → List Org → List Group
groups_in f h orgs = groups_of f.names (part_of f h.from).names orgs

-- the rules of a list of the blocking sets of groups of the part
abbrev pub group_rules_in : System → Header → List Group → Rules
group_rules_in f h groups = group_rules (part_of f h.from).sets (faulty_in f h) (tables_of groups)

-- what its certificate shows: the sets of groups in order, or the units of its lines
abbrev pub shown_by_groups : List Group → Rules → ListKind → List JournalLine → Conclusion
shown_by_groups groups r kind.Whole journal = Reached (reached.OrgBlocking groups (ordered (sets_in listed.Blocking journal)))
shown_by_groups groups r kind.Partial journal = Reached (reached.Partial Groups (journal_units r journal))

-- a journal of a list of the blocking sets of groups of the part, by the variables of the groups that have a member in its greatest quorum
pub record IsGroupJournalOf (f : System) (h : Header) (groups : List Group) (kind : ListKind) (journal : List JournalLine) : Type 0 where
  pub new : Database
  pub run : JournalRun (group_rules_in f h groups) kind nothing_held journal new
  pub numbers : All HasLineNumbers journal
  pub few_words : All (HasFewWords (size (touching (tables_of groups) (greatest_of_part f h)))) journal
  pub few : length journal + 7 ≤ MAX_LINES
  pub ends : ListEndsAs kind journal

-- the organisations are those that a file says over the system, and their digest has 32 bytes
pub record AreOrgs (f : System) (given : GivenOrgs) : Type 0 where
  pub file : List ℕ
  pub read : orgs_of f.names file ≡ Ok given.orgs
  pub long : length given.digest ≡ 32
  pub bytes : IsBytes given.digest

-- a proper prefix of the text is put; on a plain desk no file was created, or there was no room for another buffer
pub record PutsPart (text : List ℕ) (old new : DeskState) : Type 0 where
  pub count : ℕ
  pub short : count < length text
  pub put : new ≡ written Cert (take count text) old
  pub lacks : IsTrue old.plain → CannotPut Cert (count + BUFFER) old

-- the text is put to the created file, on a desk that tells or not: all of it, or a proper prefix where a write failed; a write fault is counted where one did, and nowhere else
pub record PutsCertificate {T E : Type 0} (tells : Bool) (text : List ℕ) (result : Result T E) (old : DeskState) (before : Faults) (new : DeskState) (after : Faults) : Type 0 where
  pub all : OnOk result (IsTrue tells → new ≡ written Cert text old)
  pub part : OnErr result (IsTrue tells → PutsPart text old new)
  pub faults : WriteFails before after (IsErr result)
