-- What a listing of sets of groups shows: all minimal ones, or a part of them.
use Rattle.std.proofs.Common.{◌≡◌, ℕ, ◌+◌, ◌*◌, ◌≤◌, List, [], ◌∷◌, length, sym, ap, subst, arith, ⊎_elim}
use Rattle.std.specs.Prelude.{All, Contains, ◌↔◌}
use Rattle.std.specs.List.Sorted.{IsStrictlySortedBy}
use Rattle.fbas_model.specs.Nodes.{Table, members, set_cmp}
use Rattle.fbas_model.specs.Fbas.{Fbas}
use Rattle.greatest_quorum.specs.Greatest.{greatest_of}
use Rattle.lrat_model.specs.Steps.{ProofStep, Addition, Deletion}
use Rattle.lrat_model.specs.Propagation.{Closes}
use Rattle.cdcl_core.specs.Log.{IsBoundedLog, units as units_of}
use Rattle.cdcl_core.specs.Solving.{Solving}
use Rattle.enumeration_journal.specs.Journals.{JournalLine, SetLine, StepLine, journal_units, sets_in}
use Rattle.enumeration_journal.specs.declared.kinds.Listed.TheVariants.{Blocking}
use Rattle.enumeration_journal.proofs.Greatest.{counted_greatest}
use Rattle.blocking_lists.specs.Lines.{ListLine, merged, listed_in, steps_in, IsShortStep, HasFewWords}
use Rattle.blocking_lists.specs.Outcomes.{HasFewSteps}
use Rattle.blocking_lists.specs.Search.{IsShortLog}
use Rattle.blocking_lists.proofs.Merged.{sets_merged, listed_all, steps_merged, few_words_merged}
use Rattle.blocking_lists.proofs.Models.{empty_closes}
use Rattle.group_journal.specs.Groups.{GroupsBlockMinimally}
use Rattle.group_journal.specs.Rules.{IsGroupLine}
use Rattle.group_journal.proofs.Whole.{whole_has_groups}
use Rattle.group_lists.specs.Search.{group_rules, IsGroupListing, IsWholeGroupListing}
use Rattle.group_lists.specs.Outcomes.{WholeGroupsHold, PartGroupsHold}

module _ (f : Fbas) (b : Table) (groups : List Table) where
  -- a listed set is one line and takes a unit
  lines_and_steps : (journal : List JournalLine) → length journal + 2 * units_of (steps_in journal) ≤ 2 * journal_units (group_rules f b groups) journal + length (steps_in journal)
  lines_and_steps [] = omega arith
  lines_and_steps (SetLine which id u ∷ lines) = omega (arith, lines_and_steps lines)
  lines_and_steps (StepLine (Addition id lits hints) ∷ lines) = omega (arith, lines_and_steps lines)
  lines_and_steps (StepLine (Deletion id ids) ∷ lines) = omega (arith, lines_and_steps lines)

  few_steps : (lines : List ListLine) (log : List ProofStep) → IsShortLog (group_rules f b groups).vars log → HasFewSteps (group_rules f b groups) (merged 0 lines log)
  few_steps lines log short =
      let is = steps_merged 0 lines log in
      record {
        bounded = subst (λ (steps : List ProofStep). IsBoundedLog (group_rules f b groups).vars steps) (sym is) short.bounded;
        short = omega (arith, lines_and_steps (merged 0 lines log), ap (λ (steps : List ProofStep). length steps) is, ap units_of is, short.few);
      }

  whole_at : (units left : ℕ) (lines : List ListLine) (log : List ProofStep) (sets : List Table) → length b ≡ length f
      → IsStrictlySortedBy set_cmp sets → ((n : ℕ) → All (λ s. length s ≡ n) (listed_in Blocking lines) → (s : Table) → Contains sets s ↔ Contains (listed_in Blocking lines) s) → IsWholeGroupListing f b groups units left lines log
      → WholeGroupsHold f b groups units left sets (merged 0 lines log)
  whole_at units left lines log sets same rising sorted whole =
      let each = whole_has_groups f (members b) (greatest_of f b) groups (counted_greatest f b same) (merged 0 lines log) whole.journal_is in
      let listed : sets_in Blocking (merged 0 lines log) ≡ listed_in Blocking lines = sets_merged Blocking 0 lines log in
      let minimal : All (GroupsBlockMinimally f (members b) (greatest_of f b) groups) (listed_in Blocking lines) = listed_all Blocking (λ which s. IsGroupLine f (members b) (greatest_of f b) groups which s) lines whole.right in
      let order = sorted (length groups) (λ i d low. (minimal i d low).places) in record {
        list = record {
          rising = rising;
          exact = λ s. (
            λ there. (each s).0 (subst (λ (xs : List Table). Contains xs s) (sym listed) ((order s).0 there)),
            λ is. (order s).1 (subst (λ (xs : List Table). Contains xs s) listed ((each s).1 is)),
          );
        };
        journal_is = whole.journal_is;
        few_steps = few_steps lines log whole.short;
        forgets = whole.forgets;
        taken = whole.taken;
      }

  pub groups_whole : (units left : ℕ) (lines : List ListLine) (log : List ProofStep) (journal : List JournalLine) (sets : List Table) → length b ≡ length f → journal ≡ merged 0 lines log
      → IsStrictlySortedBy set_cmp sets → ((n : ℕ) → All (λ s. length s ≡ n) (listed_in Blocking lines) → (s : Table) → Contains sets s ↔ Contains (listed_in Blocking lines) s) → IsWholeGroupListing f b groups units left lines log
      → WholeGroupsHold f b groups units left sets journal
  groups_whole units left lines log journal sets same journal_is rising sorted whole = subst (λ (ls : List JournalLine). WholeGroupsHold f b groups units left sets ls) (sym journal_is) (whole_at units left lines log sets same rising sorted whole)

  pub groups_spent : (units left : ℕ) (lines : List ListLine) (solver : Solving) (journal : List JournalLine) → journal ≡ merged 0 lines solver.log
      → left ≡ 0 → (Closes solver.database.held → ⊥) → IsGroupListing f b groups units left lines solver → PartGroupsHold f b groups units journal
  groups_spent units left lines solver journal journal_is none unclosed is = subst (λ (ls : List JournalLine). PartGroupsHold f b groups units ls) (sym journal_is) (record {
    after = solver.database;
    journal_is = record { opens = is.search.opens; run = is.search.run };
    useful = ⊎_elim (λ empty. absurd (unclosed (empty_closes solver.database.held empty))) (λ useful. useful) is.search.useful;
    unclosed = unclosed;
    few_steps = few_steps lines solver.log is.short;
    forgets = is.search.forgets;
    taken = omega (arith, is.search.taken, none);
  })

  -- the steps of the journal are the lemmas of the log
  pub groups_few : (lines : List ListLine) (log : List ProofStep) (journal : List JournalLine) → journal ≡ merged 0 lines log → All (IsShortStep (group_rules f b groups).vars) log → All (HasFewWords (group_rules f b groups).vars) journal
  groups_few lines log journal journal_is short = subst (λ (ls : List JournalLine). All (HasFewWords (group_rules f b groups).vars) ls) (sym journal_is) (few_words_merged (group_rules f b groups).vars 0 lines log short)
