-- What a search for all minimal blocking sets of groups comes to, and the certificate that shows it.
use Rattle.std.specs.Prelude.{◌≡◌, ℕ, List, length, All, Some, Ok}
use Rattle.lrat_text.specs.Texts.{HasNumbers}
use Rattle.fbas_model.specs.Nodes.{Table, size}
use Rattle.fbas_model.specs.Fbas.{Fbas}
use Rattle.fbas_model.specs.Systems.{System}
use Rattle.greatest_quorum.specs.Greatest.{greatest_of}
use Rattle.enumeration_journal.specs.Journals.{JournalLine, SetLine, StepLine}
use Rattle.enumeration_journal.specs.declared.kinds.ListKind.{ListKind}
use Rattle.enumeration_journal.specs.declared.kinds.ListKind.TheVariants as kind
use Rattle.enumeration_journal.specs.declared.kinds.Listed.{Listed}
use Rattle.enumeration_journal.specs.declared.kinds.Listed.TheVariants.{Quorum, Blocking, Smaller}
use Rattle.blocking_lists.specs.Lines.{HasLineNumbers, HasFewWords}
use Rattle.node_json.specs.Groups.{Group, tables_of, texts_of}
use Rattle.group_journal.specs.Groups.{touching}
use Rattle.group_lists.specs.Outcomes.{GroupOutcomeHolds, group_journal_in}
use Rattle.group_lists.specs.declared.outcome.GroupOutcome.{GroupOutcome}
use Rattle.group_lists.specs.declared.outcome.GroupOutcome.TheVariants.{Whole, Spent}
use Rattle.certificate_file.specs.Acceptance.{checked}
use Rattle.certificate_file.specs.declared.given.GivenOrgs.{GivenOrgs}
use Rattle.certificate_file.specs.declared.places.Header.{Header}
use Rattle.certificate_file.specs.declared.places.Conclusion.{Conclusion}
use Rattle.certificate_file.specs.declared.places.Conclusion.TheVariants.{Reached}
use Rattle.reach_kinds.specs.declared.kinds.ReachKind.TheVariants.{Groups}
use Rattle.reach_kinds.specs.declared.places.Reached.TheVariants as reached
use Rattle.cert_writer.specs.Texts.{Text, group_text}
use Rattle.cert_writer.specs.Promises.{part_of, groups_in}
use Rattle.cert_writer.specs.Finding.{Request, given_of, part, faulty}

-- whether the journal of an outcome is a whole one
abbrev pub kind_of : GroupOutcome → ListKind
kind_of (Whole sets journal) = kind.Whole
kind_of (Spent journal) = kind.Partial

-- the certificate of a list of blocking sets of groups, whole or in part, where this is the digest of the organisations' file
abbrev pub group_cert_over : System → List ℕ → Header → List ℕ → List Group → GroupOutcome → Text
group_cert_over f digest h orgs groups outcome = group_text f.names (part_of f h.from).names digest h (texts_of groups) orgs (kind_of outcome) (group_journal_in outcome)

abbrev pub group_cert_of : Request → GivenOrgs → List Group → GroupOutcome → Text
group_cert_of s given groups outcome = group_cert_over s.whole s.digest s.header given.digest groups outcome

-- what the check says of it: the blocking sets of groups in order, or how many units were spent
abbrev pub group_accepted_as : Request → List Group → GroupOutcome → Conclusion
group_accepted_as s groups (Whole sets journal) = Reached (reached.OrgBlocking groups sets.items)
group_accepted_as s groups (Spent journal) = Reached (reached.Partial Groups s.budget)

-- what a search of a system within a budget shows, once b is deleted
pub record GroupsShow (f : Fbas) (b : Table) (groups : List Table) (budget : ℕ) (outcome : GroupOutcome) : Type 0 where
  pub left : ℕ
  pub holds : GroupOutcomeHolds f b groups budget left outcome
  pub numbers : All HasLineNumbers (group_journal_in outcome)
  pub few_words : All (HasFewWords (size (touching groups (greatest_of f b)))) (group_journal_in outcome)

-- what a search finds: it shows the list for the groups of the part, or a part of one, and its certificate is accepted with the header that was asked for
pub record FindsGroups (s : Request) (groups : List Group) (outcome : GroupOutcome) (cert : Text) : Type 0 where
  pub given : GivenOrgs
  pub orgs : s.orgs ≡ Some given
  pub groups_are : groups ≡ groups_in s.whole s.header given.orgs
  pub shows : GroupsShow (part s).sets (faulty s) (tables_of groups) s.budget outcome
  pub cert_is : cert ≡ group_cert_of s given groups outcome
  pub accepted : checked s.whole (given_of s) cert ≡ Ok (record { header = s.header; answer = group_accepted_as s groups outcome })

-- how many places a listed set has: a blocking set one for each of m groups, another one for each of n nodes
abbrev pub places_for : Listed → ℕ → ℕ → ℕ
places_for Quorum n m = n
places_for Blocking n m = m
places_for Smaller n m = n

-- what a line can be written of: a set with these places, or a step whose numbers have a line
abbrev pub CanBeGroupLine : ℕ → ℕ → JournalLine → Type 0
CanBeGroupLine n m (SetLine which id set) = length set ≡ places_for which n m
CanBeGroupLine n m (StepLine step) = HasNumbers step

abbrev pub CanBeGroups : ℕ → ℕ → GroupOutcome → Type 0
CanBeGroups n m outcome = All (CanBeGroupLine n m) (group_journal_in outcome)
