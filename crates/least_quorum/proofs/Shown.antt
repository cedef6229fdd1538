-- What a search for a smallest quorum shows: the quorum listed last, or that it was spent.
use Rattle.std.proofs.Common.{◌≡◌, ℕ, ◌+◌, ◌*◌, ◌≤◌, ◌<◌, List, [], ◌∷◌, length, refl, sym, ap, subst, arith, ⊎_elim, ◌⊎◌, Option, Some, None}
use Rattle.std.specs.Prelude.{All}
use Rattle.fbas_model.specs.Nodes.{Nodes, Table, members, size}
use Rattle.fbas_model.specs.Fbas.{Fbas}
use Rattle.greatest_quorum.specs.Greatest.{greatest_of}
use Rattle.lrat_model.specs.Steps.{ProofStep, Addition, Deletion}
use Rattle.lrat_model.specs.Lemmas.{IsDue}
use Rattle.lrat_model.specs.Propagation.{Closes}
use Rattle.cdcl_core.specs.Log.{IsBoundedLog, units}
use Rattle.cdcl_core.specs.Solving.{Solving}
use Rattle.clause_encoder.specs.NameCounter.{counter_vars}
use Rattle.enumeration_journal.specs.Journals.{JournalLine, SetLine, StepLine, journal_units, sets_in}
use Rattle.enumeration_journal.specs.declared.kinds.Listed.TheVariants.{Quorum, Blocking, Smaller}
use Rattle.enumeration_journal.proofs.Greatest.{counted_greatest}
use Rattle.blocking_lists.specs.Lines.{ListLine, merged, listed_in, steps_in, IsShortStep, HasFewWords}
use Rattle.blocking_lists.specs.Search.{IsShortLog}
use Rattle.blocking_lists.proofs.Merged.{sets_merged, steps_merged, few_words_merged}
use Rattle.blocking_lists.proofs.Models.{empty_closes}
use Rattle.least_journal.specs.Least.{least_of, AreSmaller, FallFrom, IsWholeLeast, last_of, answer_of, IsLeastAnswer}
use Rattle.least_journal.proofs.Smallest.{least_answer}
use Rattle.least_quorum.specs.Search.{best_in, IsLeastListing, IsWholeLeastListing}
use Rattle.least_quorum.specs.Outcomes.{HasFewLeastSteps, IsWanted, LeastHolds, PartLeastHolds, LeastOutcomeHolds, whole_outcome, least_journal_of}
use Rattle.least_quorum.proofs.Falling.{falling_count, falls_from}

-- ---- how many lines

-- a blocking set is one line and takes a unit, and a smaller quorum is one line
module _ (f : Fbas) (b : Nodes) (g : Table) where
  lines_and_steps : (journal : List JournalLine) → length journal + 2 * units (steps_in journal) ≤ 2 * journal_units (least_of f b g) journal + length (steps_in journal) + length (sets_in Smaller journal)
  lines_and_steps [] = omega arith
  lines_and_steps (SetLine Smaller id u ∷ lines) = omega (arith, lines_and_steps lines)
  lines_and_steps (SetLine Quorum id u ∷ lines) = omega (arith, lines_and_steps lines)
  lines_and_steps (SetLine Blocking id s ∷ lines) = omega (arith, lines_and_steps lines)
  lines_and_steps (StepLine (Addition id lits hints) ∷ lines) = omega (arith, lines_and_steps lines)
  lines_and_steps (StepLine (Deletion id ids) ∷ lines) = omega (arith, lines_and_steps lines)

  few_lines : (lines : List ListLine) (log : List ProofStep) → IsShortLog (counter_vars (size g)) log → AreSmaller (size g + 1) (listed_in Smaller lines) → 0 < best_in g lines → HasFewLeastSteps (size g) (least_of f b g) (merged 0 lines log)
  few_lines lines log short falling some =
      let steps_are = steps_merged 0 lines log in
      let sets_are = sets_merged Smaller 0 lines log in record {
        bounded = subst (λ (steps : List ProofStep). IsBoundedLog (counter_vars (size g)) steps) (sym steps_are) short.bounded;
        short = omega (arith, lines_and_steps (merged 0 lines log), ap (λ (steps : List ProofStep). length steps) steps_are, ap units steps_are, short.few, ap (λ (sets : List Table). length sets) sets_are, falling_count (size g + 1) (listed_in Smaller lines) falling, some);
      }

-- ---- the outcome

module _ (f : Fbas) (b : Table) where
  whole_at : (units left : ℕ) (lines : List ListLine) (log : List ProofStep) → length b ≡ length f → IsWholeLeastListing f (members b) (greatest_of f b) units left lines log → LeastHolds f b units left (last_of None (listed_in Smaller lines)) (merged 0 lines log)
  whole_at units left lines log same whole =
      let journal = merged 0 lines log in
      let sets_are : sets_in Smaller journal ≡ listed_in Smaller lines = sets_merged Smaller 0 lines log in
      let answer_is : answer_of journal ≡ last_of None (listed_in Smaller lines) = ap (last_of None) sets_are in
      let journal_is : IsWholeLeast f (members b) (greatest_of f b) journal = record {
        falling = subst (λ (sets : List Table). FallFrom sets) (sym sets_are) (falls_from (size (greatest_of f b) + 1) (listed_in Smaller lines) whole.falling);
        whole = whole.journal_is;
      } in record {
        least = subst (λ (o : Option Table). IsLeastAnswer f (members b) o) answer_is (least_answer f (members b) (greatest_of f b) journal (counted_greatest f b same) journal_is);
        answer_is = answer_is;
        journal_is = journal_is;
        few_steps = few_lines f (members b) (greatest_of f b) lines log whole.short whole.falling whole.some;
        forgets = whole.forgets;
        taken = whole.taken;
      }

  spent_at : (units left : ℕ) (lines : List ListLine) (solver : Solving) → left ≡ 0 → (Closes solver.database.held → ⊥) → IsDue solver.database.held ⊎ IsWanted f (members b) (greatest_of f b) solver.database.held
      → IsLeastListing f (members b) (greatest_of f b) units left lines solver → PartLeastHolds f b units (merged 0 lines solver.log)
  spent_at units left lines solver none unclosed wanted is =
      let sets_are = sets_merged Smaller 0 lines solver.log in record {
        after = solver.database;
        journal_is = record {
          falling = subst (λ (sets : List Table). FallFrom sets) (sym sets_are) (falls_from (size (greatest_of f b) + 1) (listed_in Smaller lines) is.falling);
          part = record { opens = is.search.opens; run = is.search.run };
        };
        useful = ⊎_elim (λ empty. absurd (unclosed (empty_closes solver.database.held empty))) (λ useful. useful) is.search.useful;
        unclosed = unclosed;
        wanted = wanted;
        few_steps = few_lines f (members b) (greatest_of f b) lines solver.log is.short is.falling is.some;
        forgets = is.search.forgets;
        taken = omega (arith, is.search.taken);
      }

module _ (f : Fbas) (b g : Table) (g_is : g ≡ greatest_of f b) where
  pub least_whole : (units left : ℕ) (lines : List ListLine) (log : List ProofStep) (journal : List JournalLine) → length b ≡ length f → journal ≡ merged 0 lines log
      → IsWholeLeastListing f (members b) g units left lines log → LeastHolds f b units left (last_of None (listed_in Smaller lines)) journal
  least_whole units left lines log journal same journal_is whole =
      subst (λ (ls : List JournalLine). LeastHolds f b units left (last_of None (listed_in Smaller lines)) ls) (sym journal_is)
      (whole_at f b units left lines log same (subst (λ (t : Table). IsWholeLeastListing f (members b) t units left lines log) g_is whole))

  pub least_spent : (units left : ℕ) (lines : List ListLine) (solver : Solving) (journal : List JournalLine) → journal ≡ merged 0 lines solver.log → left ≡ 0 → (Closes solver.database.held → ⊥) → IsDue solver.database.held ⊎ IsWanted f (members b) g solver.database.held
      → IsLeastListing f (members b) g units left lines solver → PartLeastHolds f b units journal
  least_spent units left lines solver journal journal_is none unclosed wanted is =
      subst (λ (ls : List JournalLine). PartLeastHolds f b units ls) (sym journal_is)
      (spent_at f b units left lines solver none unclosed (subst (λ (t : Table). IsDue solver.database.held ⊎ IsWanted f (members b) t solver.database.held) g_is wanted) (subst (λ (t : Table). IsLeastListing f (members b) t units left lines solver) g_is is))

  -- the steps of the journal are the lemmas of the log
  pub least_words : (lines : List ListLine) (log : List ProofStep) (journal : List JournalLine) → journal ≡ merged 0 lines log → All (IsShortStep (counter_vars (size g))) log → All (HasFewWords (counter_vars (size (greatest_of f b)))) journal
  least_words lines log journal journal_is short =
      subst (λ (ls : List JournalLine). All (HasFewWords (counter_vars (size (greatest_of f b)))) ls) (sym journal_is)
      (subst (λ (t : Table). All (HasFewWords (counter_vars (size t))) (merged 0 lines log)) g_is (few_words_merged (counter_vars (size g)) 0 lines log short))

-- the outcome of a whole search
pub whole_holds : (f : Fbas) (b : Table) (units left : ℕ) (answer : Option Table) (journal : List JournalLine) → LeastHolds f b units left answer journal → LeastOutcomeHolds f b units left (whole_outcome answer journal)
whole_holds f b units left (Some u) journal holds = holds
whole_holds f b units left None journal holds = holds

pub same_journal : (answer : Option Table) (journal : List JournalLine) → least_journal_of (whole_outcome answer journal) ≡ journal
same_journal (Some u) journal = refl
same_journal None journal = refl
