-- What the outcome of a search for a smallest quorum says.
use Rattle.std.specs.Prelude.{◌≡◌, ◌⊎◌, ℕ, ◌+◌, ◌*◌, ◌≤◌, List, Option, Some, None, length}
use Rattle.fbas_model.specs.Nodes.{Nodes, Table, members, ∅, size}
use Rattle.fbas_model.specs.Fbas.{Fbas}
use Rattle.greatest_quorum.specs.Greatest.{greatest_of}
use Rattle.lrat_model.specs.Clauses.{Held}
use Rattle.lrat_model.specs.Steps.{Database}
use Rattle.lrat_model.specs.Lemmas.{IsDue, IsUseful}
use Rattle.lrat_model.specs.Propagation.{Closes}
use Rattle.cdcl_core.specs.Log.{IsBoundedLog}
use Rattle.enumeration_journal.specs.Journals.{JournalLine, Rules, journal_units, AreUseful}
use Rattle.enumeration_journal.specs.declared.kinds.Listed.TheVariants.{Blocking}
use Rattle.blocking_lists.specs.Lines.{steps_in, AreForgetting}
use Rattle.least_journal.specs.Least.{IsRightIn, clause_in, least_of, IsWholeLeast, IsPartialLeast, answer_of, IsLeastAnswer}
use Rattle.least_quorum.specs.declared.outcome.LeastOutcome.{LeastOutcome}
use Rattle.least_quorum.specs.declared.outcome.LeastOutcome.TheVariants.{Least, NoQuorum, Spent}

-- the rules of the search, where the greatest quorum is found by counting
abbrev pub least_rules : Fbas → Table → Rules
least_rules f b = least_of f (members b) (greatest_of f b)

-- the deletions of a journal name only its lemmas and keep within the bounds, and there is at most one line more than twice the units and the quorums that fall in size
pub record HasFewLeastSteps (g : ℕ) (r : Rules) (journal : List JournalLine) : Type 0 where
  pub bounded : IsBoundedLog r.vars (steps_in journal)
  pub short : length journal ≤ 2 * journal_units r journal + 1 + g

-- the line of some blocking set is wanted: its clause would be useful, or it names nobody
abbrev pub IsWanted : Fbas → Nodes → Table → Held → Type 0
IsWanted f b g held = (s : Table) × IsRightIn f b g Blocking s × ((members s ≡ ∅) ⊎ IsUseful held (clause_in g Blocking s))

-- a smallest quorum or that there is none, with the whole journal that says so, which takes the units that are gone; each deletion carries the last id, and comes where the clauses do not close
pub record LeastHolds (f : Fbas) (b : Table) (units left : ℕ) (answer : Option Table) (journal : List JournalLine) : Type 0 where
  pub least : IsLeastAnswer f (members b) answer
  pub answer_is : answer_of journal ≡ answer
  pub journal_is : IsWholeLeast f (members b) (greatest_of f b) journal
  pub few_steps : HasFewLeastSteps (size (greatest_of f b)) (least_rules f b) journal
  pub forgets : AreForgetting (least_rules f b) (least_rules f b).start journal
  pub taken : journal_units (least_rules f b) journal + left ≡ units

-- the journal of a part of the search, of useful lines, one for each unit, and quorums that fall in size, whose clauses do not close; and a unit was wanted, for a lemma or for the line of a blocking set
pub record PartLeastHolds (f : Fbas) (b : Table) (units : ℕ) (journal : List JournalLine) : Type 0 where
  pub after : Database
  pub journal_is : IsPartialLeast f (members b) (greatest_of f b) journal after
  pub useful : AreUseful (least_rules f b) (least_rules f b).start journal
  pub unclosed : Closes after.held → ⊥
  pub wanted : IsDue after.held ⊎ IsWanted f (members b) (greatest_of f b) after.held
  pub few_steps : HasFewLeastSteps (size (greatest_of f b)) (least_rules f b) journal
  pub forgets : AreForgetting (least_rules f b) (least_rules f b).start journal
  pub taken : journal_units (least_rules f b) journal ≡ units

-- what is so of an outcome, where this many units were left at first, and are left now
abbrev pub LeastOutcomeHolds : Fbas → Table → ℕ → ℕ → LeastOutcome → Type 0
LeastOutcomeHolds f b units left (Least set journal) = LeastHolds f b units left (Some set) journal
LeastOutcomeHolds f b units left (NoQuorum journal) = LeastHolds f b units left None journal
LeastOutcomeHolds f b units left (Spent journal) = (left ≡ 0) × PartLeastHolds f b units journal

-- the outcome of a whole search
abbrev pub whole_outcome : Option Table → List JournalLine → LeastOutcome
whole_outcome (Some set) journal = Least set journal
whole_outcome None journal = NoQuorum journal

-- the journal of an outcome
abbrev pub least_journal_of : LeastOutcome → List JournalLine
least_journal_of (Least set journal) = journal
least_journal_of (NoQuorum journal) = journal
least_journal_of (Spent journal) = journal
