-- What the outcome of a search for the minimal blocking sets of groups says.
use Rattle.std.specs.Prelude.{◌≡◌, ℕ, ◌+◌, List}
use Rattle.fbas_model.specs.Nodes.{Table, members}
use Rattle.fbas_model.specs.Fbas.{Fbas}
use Rattle.greatest_quorum.specs.Greatest.{greatest_of}
use Rattle.lrat_model.specs.Steps.{Database}
use Rattle.lrat_model.specs.Propagation.{Closes}
use Rattle.enumeration_journal.specs.Journals.{JournalLine, IsWholeJournal, IsPartialJournal, journal_units, AreUseful}
use Rattle.blocking_lists.specs.Lines.{AreForgetting}
use Rattle.blocking_lists.specs.Outcomes.{HasFewSteps}
use Rattle.group_journal.specs.Groups.{IsGroupList}
use Rattle.group_lists.specs.Search.{group_rules}
use Rattle.group_lists.specs.declared.outcome.GroupOutcome.{GroupOutcome}
use Rattle.group_lists.specs.declared.outcome.GroupOutcome.TheVariants.{Whole, Spent}

-- all minimal blocking sets of groups in order, with the journal of a whole list, which takes the units that are gone; each deletion carries the last id, and comes where the clauses do not close
pub record WholeGroupsHold (f : Fbas) (b : Table) (groups : List Table) (units left : ℕ) (sets : List Table) (journal : List JournalLine) : Type 0 where
  pub list : IsGroupList f (members b) (greatest_of f b) groups sets
  pub journal_is : IsWholeJournal (group_rules f b groups) journal
  pub few_steps : HasFewSteps (group_rules f b groups) journal
  pub forgets : AreForgetting (group_rules f b groups) (group_rules f b groups).start journal
  pub taken : journal_units (group_rules f b groups) journal + left ≡ units

-- the journal of a part of the list, of useful lines, one for each unit, whose clauses do not close
pub record PartGroupsHold (f : Fbas) (b : Table) (groups : List Table) (units : ℕ) (journal : List JournalLine) : Type 0 where
  pub after : Database
  pub journal_is : IsPartialJournal (group_rules f b groups) journal after
  pub useful : AreUseful (group_rules f b groups) (group_rules f b groups).start journal
  pub unclosed : Closes after.held → ⊥
  pub few_steps : HasFewSteps (group_rules f b groups) journal
  pub forgets : AreForgetting (group_rules f b groups) (group_rules f b groups).start journal
  pub taken : journal_units (group_rules f b groups) journal ≡ units

-- what is so of an outcome, where this many units were left at first, and are left now
abbrev pub GroupOutcomeHolds : Fbas → Table → List Table → ℕ → ℕ → GroupOutcome → Type 0
GroupOutcomeHolds f b groups units left (Whole sets journal) = WholeGroupsHold f b groups units left sets.items journal
GroupOutcomeHolds f b groups units left (Spent journal) = (left ≡ 0) × PartGroupsHold f b groups units journal

-- the journal of an outcome
abbrev pub group_journal_in : GroupOutcome → List JournalLine
group_journal_in (Whole sets journal) = journal
group_journal_in (Spent journal) = journal
