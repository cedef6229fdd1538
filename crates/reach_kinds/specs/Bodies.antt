-- The bodies that are read line by line: of lists, and of a smallest quorum.
use Rattle.std.specs.Prelude.{ℕ, ◌+◌, ◌*◌, List, [], ◌∷◌, ◌++◌, map, Bool, true, false, not, ◌&&◌, ◌||◌, ◌==◌, nat_le, nat_lt, Option, Some, None, is_none, ok_or, Result, Ok, Err, codes, if◌then◌else◌}
use Rattle.std.specs.List.{list_all, list_any}
use Rattle.std.specs.Str.{bytes_eq}
use Rattle.fbas_model.specs.Nodes.{Table, members, size}
use Rattle.fbas_model.specs.Fbas.{Fbas}
use Rattle.fbas_model.specs.Counting.{is_quorum}
use Rattle.fbas_model.specs.Names.{Name, is_among, marks}
use Rattle.fbas_model.specs.Systems.{System}
use Rattle.fbas_model.specs.Restriction.{kept, restricted, restricted_sets}
use Rattle.greatest_quorum.specs.Greatest.{greatest_of}
use Rattle.lrat_model.specs.Literal.{Literal, has}
use Rattle.lrat_model.specs.Clauses.{Held, clause_at, with_clause}
use Rattle.lrat_model.specs.Steps.{ProofStep, Addition, Deletion, Database, after_step, progress_of}
use Rattle.lrat_model.specs.Rules.{step_fault_by}
use Rattle.lrat_model.specs.declared.step.Rule.TheVariants.{Rup}
use Rattle.lrat_model.specs.declared.step.StepFault.{StepFault}
use Rattle.lrat_model.specs.declared.step.StepFault.TheVariants.{IdOrder}
use Rattle.lrat_model.specs.declared.step.Progress.{Progress}
use Rattle.lrat_model.specs.declared.step.Progress.TheVariants.{Going as going, Refuted}
use Rattle.lrat_checker.specs.Checking.{Checking}
use Rattle.lrat_text.specs.Lines.{step_in}
use Rattle.lrat_text.specs.Numbers.{id_in}
use Rattle.lrat_model.specs.Runs.{formula_database}
use Rattle.enumeration_journal.specs.Journals.{Rules, list_of, nothing_held}
use Rattle.enumeration_journal.specs.Kinds.{is_sought}
use Rattle.enumeration_journal.specs.Order.{ordered}
use Rattle.enumeration_journal.specs.Tests.{is_within, is_kind, is_minimal}
use Rattle.enumeration_journal.specs.declared.kinds.ListKind.{ListKind}
use Rattle.enumeration_journal.specs.declared.kinds.ListKind.TheVariants.{Whole, Partial as Part}
use Rattle.enumeration_journal.specs.declared.kinds.Listed.{Listed}
use Rattle.enumeration_journal.specs.declared.kinds.Listed.TheVariants as listed
use Rattle.clause_encoder.specs.declared.limits.TheConstants.{MOST_VARS}
use Rattle.clause_encoder.specs.NameCounter.{counter_vars, counter_of}
use Rattle.least_journal.specs.Least.{least_of, last_of}
use Rattle.cert_lines.specs.Limits.{unless}
use Rattle.cert_lines.specs.Words.{Word, words_of, names_in}
use Rattle.cert_lines.specs.Saying.{counter_in, or_bad_line}
use Rattle.cert_lines.specs.declared.saying.Counts.{Counts}
use Rattle.cert_lines.specs.declared.faults.CertError.{CertError}
use Rattle.cert_lines.specs.declared.faults.CertError.TheVariants.{BadLine, UnknownNode, NotQuorum, NotBlocking, NotMinimal, NotSmaller, TooLarge, Formula, Step, NotNew, NotRefuted}
use Rattle.witness_pair.specs.Making.{shared, least}
use Rattle.reach_kinds.specs.declared.places.Reached.{Reached}
use Rattle.reach_kinds.specs.declared.places.Reached.TheVariants.{Minimal, Least, Partial}
use Rattle.reach_kinds.specs.declared.kinds.ReachKind.TheVariants.{Nodes}
use Rattle.reach_kinds.specs.declared.places.ListPart.{ListPart}
use Rattle.reach_kinds.specs.declared.places.Listing.{Listing}
use Rattle.reach_kinds.specs.declared.places.ReachPlace.{ReachPlace}
use Rattle.reach_kinds.specs.declared.places.ReachPlace.TheVariants.{AtCounter, AtList, AtEnd}
use Rattle.reach_kinds.specs.declared.places.ReachState.{ReachState}
use Rattle.reach_kinds.specs.declared.places.ReachState.TheVariants.{Going, Done}

-- ---- results in a row

-- the first fault, or what follows from the value
abbrev pub and_then : {A B : Type 0} → (A → Result B CertError) → Result A CertError → Result B CertError
and_then f (Ok a) = f a
and_then f (Err e) = Err e

-- ---- sets of nodes by their names

abbrev pub all_among : List Name → List Name → Bool
all_among chosen names = list_all (λ n. is_among n names) chosen

-- the nodes of the chosen names, on line l
abbrev pub nodes_of : List Name → ℕ → List Name → Result Table CertError
nodes_of names l chosen = unless (UnknownNode l) (all_among chosen names) (Ok (marks names chosen))

-- the nodes that are not in the set
abbrev pub others : Table → Table
others s = map not s

-- a set of nodes of the part
abbrev pub within : Table → ℕ → Table → Result Table CertError
within nodes l u = unless (UnknownNode l) (is_none (least (shared u (others nodes)))) (Ok u)

-- ---- lines

-- a line that has to be this text
abbrev pub expected : {A : Type 0} → ℕ → List ℕ → List ℕ → Result A CertError → Result A CertError
expected l text wanted r = unless (BadLine l) (bytes_eq text wanted) r

-- ---- steps

-- what a checker holds after a change of its clauses
abbrev pub holding : Checking → Database → Checking
holding c database = record { rule = c.rule; vars = c.vars; database = database }

-- the clause, if there is one, has only these literals
abbrev pub has_only : List Literal → Option (List Literal) → Bool
has_only lits None = false
has_only lits (Some clause) = list_all (has lits) clause

-- a clause held under an id below this one has only these literals
abbrev pub is_covered : Held → ℕ → List Literal → Bool
is_covered held id lits = list_any (λ e. nat_lt e.0 id && has_only lits (clause_at held e.0)) held

-- the step adds a clause that is not new
abbrev pub adds_covered : Held → ProofStep → Bool
adds_covered held (Addition id lits hints) = is_covered held id lits
adds_covered held (Deletion id ids) = false

-- how many units there are after the step: an addition is one
abbrev pub counted : ℕ → ProofStep → ℕ
counted n (Addition id lits hints) = n + 1
counted n (Deletion id ids) = n

-- the step, unless it is the empty lemma
abbrev pub unless_refuted : ℕ → ProofStep → Progress → Result ProofStep CertError
unless_refuted l step going = Ok step
unless_refuted l step Refuted = Err (BadLine l)

abbrev pub with_literal : ℕ → ProofStep → Result ProofStep CertError
with_literal l step = unless_refuted l step (progress_of step)

-- ---- the lines of a list

-- the system of the nodes, the faulty ones of them and its greatest quorum once they are deleted
abbrev pub list_part : System → Table → Table → ListPart
list_part f nodes faulty = record {
  system = restricted nodes f;
  faulty = kept nodes faulty;
  greatest = greatest_of (restricted_sets nodes f.sets) (kept nodes faulty);
}

-- a list with what its checker holds, the sets and the units
abbrev pub listing_on : Listed → ListKind → ListPart → Checking → List Table → ℕ → Listing
listing_on sought kind part checker sets units = record { sought = sought; kind = kind; part = part; checker = checker; sets = sets; units = units }

-- what the checker of a list holds: no RAT hint is taken
abbrev pub list_checking : ℕ → Database → Checking
list_checking vars database = record { rule = Rup; vars = vars; database = database }

-- before the first line: nothing is held, and each node of the greatest quorum has a variable
abbrev pub no_listing : System → Listed → ListKind → Table → Table → Listing
no_listing f sought kind nodes faulty = listing_on sought kind (list_part f nodes faulty) (list_checking (size (list_part f nodes faulty).greatest) nothing_held) [] 0

-- the rules of a list of the sets of a kind of the part: of all minimal ones, or, where ever smaller quorums are sought, of a smallest one
abbrev pub rules_of : Listed → ListPart → Rules
rules_of listed.Quorum p = list_of listed.Quorum p.system.sets (members p.faulty) p.greatest
rules_of listed.Blocking p = list_of listed.Blocking p.system.sets (members p.faulty) p.greatest
rules_of listed.Smaller p = least_of p.system.sets (members p.faulty) p.greatest

-- after the counter: its clauses are held
abbrev pub counted_listing : ListKind → ListPart → Listing
counted_listing kind p = listing_on listed.Smaller kind p (list_checking (counter_vars (size p.greatest)) (formula_database (counter_of (size p.greatest)))) [] 0

-- where the counter has these many variables and clauses
abbrev pub counter_sized : ℕ → ListKind → ListPart → Counts → Result ReachState CertError
counter_sized l kind p counts =
    unless (TooLarge (counter_vars (size p.greatest))) (nat_le (counter_vars (size p.greatest)) MOST_VARS)
    (unless (Formula l) ((counts.vars == counter_vars (size p.greatest)) && (counts.clauses == size p.greatest * size p.greatest))
    (Ok (Going (AtList (counted_listing kind p)))))

-- how many variables and clauses the counter of the nodes of the greatest quorum has
abbrev pub counter_line : ListKind → ListPart → ℕ → List ℕ → Result ReachState CertError
counter_line kind p l text = and_then (counter_sized l kind p) (ok_or (counter_in text) (BadLine l))

-- the first line that is awaited: that of the counter where a smallest quorum is sought
abbrev pub body_begins : System → Listed → ListKind → Table → Table → ReachPlace
body_begins f listed.Quorum kind nodes faulty = AtList (no_listing f listed.Quorum kind nodes faulty)
body_begins f listed.Blocking kind nodes faulty = AtList (no_listing f listed.Blocking kind nodes faulty)
body_begins f listed.Smaller kind nodes faulty = AtCounter kind (list_part f nodes faulty)

-- as what a quorum is listed, and by which letter: where ever smaller ones are sought, as one of them
abbrev pub quorum_as : Listed → Listed
quorum_as listed.Quorum = listed.Quorum
quorum_as listed.Blocking = listed.Quorum
quorum_as listed.Smaller = listed.Smaller

abbrev pub quorum_letter : Listed → Word
quorum_letter listed.Quorum = codes "q"
quorum_letter listed.Blocking = codes "q"
quorum_letter listed.Smaller = codes "s"

-- what the first word of a line lists, if it is no step
abbrev pub listed_by : Listed → List Word → Option Listed
listed_by sought [] = None
listed_by sought (w ∷ ws) = if bytes_eq w (quorum_letter sought) then Some (quorum_as sought) else (if bytes_eq w (codes "b") then Some listed.Blocking else None)

-- an id and names
pub record Numbered : Type 0 where
  pub id : ℕ
  pub names : List Name

abbrev pub numbered_if_any : Option ℕ → Option (List Name) → Option Numbered
numbered_if_any (Some id) (Some names) = Some (record { id = id; names = names })
numbered_if_any (Some id) None = None
numbered_if_any None names = None

-- the id and the names after the first word
abbrev pub numbered_in : List Word → Option Numbered
numbered_in [] = None
numbered_in (w ∷ []) = None
numbered_in (w ∷ id ∷ names) = numbered_if_any (id_in id) (names_in names)

-- where quorums are sought, a blocking set lies in the greatest one, and where smaller ones are, each set does
abbrev pub asks_inside : Listed → Listed → Bool
asks_inside listed.Quorum listed.Quorum = false
asks_inside listed.Quorum listed.Blocking = true
asks_inside listed.Quorum listed.Smaller = false
asks_inside listed.Blocking which = false
asks_inside listed.Smaller which = true

-- a set is what it is listed for: a quorum or a blocking set, as far as its letter may stand where these are sought
abbrev pub is_listed_for : Listed → Listed → Fbas → Table → Table → Bool
is_listed_for listed.Quorum which f b u = is_kind which f b u
is_listed_for listed.Blocking which f b u = is_kind which f b u
is_listed_for listed.Smaller listed.Quorum f b u = false
is_listed_for listed.Smaller listed.Blocking f b u = is_kind listed.Blocking f b u
is_listed_for listed.Smaller listed.Smaller f b u = is_quorum f b u

abbrev pub not_of : ℕ → Listed → CertError
not_of l listed.Quorum = NotQuorum l
not_of l listed.Blocking = NotBlocking l
not_of l listed.Smaller = NotQuorum l

-- where all minimal sets are sought, one of them has no node to spare
abbrev pub asks_minimal : Listed → Listed → Bool
asks_minimal listed.Quorum which = is_sought listed.Quorum which
asks_minimal listed.Blocking which = is_sought listed.Blocking which
asks_minimal listed.Smaller which = false

-- where ever smaller quorums are sought, one of them has fewer nodes than the one before it
abbrev pub asks_smaller : Listed → Listed → Bool
asks_smaller listed.Quorum which = false
asks_smaller listed.Blocking which = false
asks_smaller listed.Smaller which = is_sought listed.Smaller which

abbrev pub is_below : ℕ → Option Table → Bool
is_below n None = true
is_below n (Some u) = nat_lt n (size u)

-- a set of the part that is what it is listed for
abbrev pub right_set : Listing → ℕ → Listed → Table → Result Table CertError
right_set k l which u =
    unless (UnknownNode l) (not (asks_inside k.sought which) || is_within u k.part.greatest)
    (unless (not_of l which) (is_listed_for k.sought which k.part.system.sets k.part.faulty u)
    (unless (NotMinimal l) (not (asks_minimal k.sought which) || is_minimal which k.part.system.sets k.part.faulty u)
    (unless (NotSmaller l) (not (asks_smaller k.sought which) || is_below (size u) (last_of None k.sets)) (Ok u))))

-- the set's clause had to be new and is not
abbrev pub is_old : Listing → Listed → ℕ → Table → Bool
is_old k which id u = (rules_of k.sought k.part).asks k.kind which && is_covered k.checker.database.held id ((rules_of k.sought k.part).clause which u)

abbrev pub new_set : Listing → ℕ → Listed → ℕ → Table → Result Table CertError
new_set k l which id u = unless (NotNew l) (not (is_old k which id u)) (Ok u)

-- the sets with this one, if it is of the sought kind
abbrev pub put_last : Bool → List Table → Table → List Table
put_last true sets u = sets ++ u ∷ []
put_last false sets u = sets

abbrev pub with_sought : Listed → List Table → Listed → Table → List Table
with_sought sought sets which u = put_last (is_sought sought which) sets u

-- the list with a set u of the whole system, which is w in the part
abbrev pub with_listed : Listing → Listed → ℕ → Table → Table → Listing
with_listed k which id u w =
    listing_on k.sought k.kind k.part (holding k.checker (record { held = with_clause k.checker.database.held id ((rules_of k.sought k.part).clause which w); last = id })) (with_sought k.sought k.sets which u) (k.units + (rules_of k.sought k.part).cost which)

-- the set u of the whole system listed under an id
abbrev pub list_set : Table → Listing → ℕ → Listed → ℕ → Table → Result ReachState CertError
list_set nodes k l which id u = and_then (λ w. Ok (Going (AtList (with_listed k which id u w)))) (and_then (new_set k l which id) (right_set k l which (kept nodes u)))

-- an id above the last one, and names of nodes of the part
abbrev pub set_line : System → Table → Listing → ℕ → Listed → Numbered → Result ReachState CertError
set_line f nodes k l which n =
    unless (Step l (IdOrder k.checker.database.last n.id)) (nat_lt k.checker.database.last n.id)
    (and_then (list_set nodes k l which n.id) (and_then (within nodes l) (nodes_of f.names l n.names)))

-- in a part of a list, the empty lemma may not stand
abbrev pub literal_in : ListKind → ℕ → ProofStep → Result ProofStep CertError
literal_in Whole l step = Ok step
literal_in Part l step = with_literal l step

abbrev pub asks_steps : ListKind → Bool
asks_steps Whole = false
asks_steps Part = true

-- a step's fault, or that it is not as new as is asked, or else what follows
abbrev pub unless_refused : {A : Type 0} → ℕ → Bool → Option StepFault → Result A CertError → Result A CertError
unless_refused l old (Some fault) r = Err (Step l fault)
unless_refused l old None r = unless (NotNew l) (not old) r

-- what is held after a step, which is new where the kind asks for it, and where it led, with the units
abbrev pub counted_step : ℕ → ListKind → Checking → ℕ → ProofStep → Result ((Checking × Progress) × ℕ) CertError
counted_step l kind c n step =
    unless_refused l (asks_steps kind && adds_covered c.database.held step) (step_fault_by c.rule c.vars c.database step)
    (Ok ((holding c (after_step c.database step), progress_of step), counted n step))

-- a part's step has to be new and is not
abbrev pub is_old_step : Listing → ProofStep → Bool
is_old_step k step = asks_steps k.kind && adds_covered k.checker.database.held step

-- the list after a step
abbrev pub with_step : Listing → ProofStep → Listing
with_step k step = listing_on k.sought k.kind k.part (holding k.checker (after_step k.checker.database step)) k.sets (counted k.units step)

-- the listed sets in the order in which they are shown: each once and in name order, or as they were listed
abbrev pub in_shown_order : Listed → List Table → List Table
in_shown_order listed.Quorum sets = ordered sets
in_shown_order listed.Blocking sets = ordered sets
in_shown_order listed.Smaller sets = sets

-- what a list of a kind shows: of ever smaller quorums the last one
abbrev pub whole_of : Listed → List Table → Reached
whole_of listed.Quorum sets = Minimal listed.Quorum sets
whole_of listed.Blocking sets = Minimal listed.Blocking sets
whole_of listed.Smaller sets = Least (last_of None sets)

-- the next line after a step: `end` where it was the empty lemma
abbrev pub after_list_step : Listing → Progress → ReachState
after_list_step k going = Going (AtList k)
after_list_step k Refuted = Going (AtEnd (whole_of k.sought (in_shown_order k.sought k.sets)))

-- what is so after a step, if it has no fault and is as new as the kind asks
abbrev pub list_step_unless : ℕ → Listing → ProofStep → Option StepFault → Result ReachState CertError
list_step_unless l k step fault = unless_refused l (is_old_step k step) fault (Ok (after_list_step (with_step k step) (progress_of step)))

abbrev pub list_step : Listing → ℕ → ProofStep → Result ReachState CertError
list_step k l step = list_step_unless l k step (step_fault_by k.checker.rule k.checker.vars k.checker.database step)

-- the end of a list: a whole one does not end before the empty lemma
abbrev pub list_end : ListKind → Listing → ℕ → Result ReachState CertError
list_end Whole k l = Err (NotRefuted l)
list_end Part k l = Ok (Done (Partial (Nodes k.sought) k.units))

-- a listed set, or else a step
abbrev pub list_text : System → Table → Listing → ℕ → List ℕ → Option Listed → Result ReachState CertError
list_text f nodes k l text (Some which) = and_then (set_line f nodes k l which) (ok_or (numbered_in (words_of text)) (BadLine l))
list_text f nodes k l text None = and_then (list_step k l) (and_then (literal_in k.kind l) (or_bad_line l (step_in text)))

-- a line of a list, or its end
abbrev pub list_line : System → Table → Listing → ℕ → List ℕ → Result ReachState CertError
list_line f nodes k l text = if bytes_eq text (codes "end") then list_end k.kind k l else list_text f nodes k l text (listed_by k.sought (words_of text))
