-- Where a search for a smallest quorum stands.
use Rattle.std.specs.Prelude.{◌≡◌, ◌⊎◌, ℕ, ◌+◌, ◌*◌, ◌<◌, ◌≤◌, false, List, [], ◌∷◌, All, length}
use Rattle.fbas_model.specs.Nodes.{Nodes, Table, size}
use Rattle.fbas_model.specs.Fbas.{Fbas}
use Rattle.lrat_model.specs.Clauses.{has_id}
use Rattle.lrat_model.specs.Steps.{ProofStep}
use Rattle.lrat_text.specs.Texts.{IsId}
use Rattle.cdcl_core.specs.Log.{live_in}
use Rattle.cdcl_core.specs.Solving.{Solving}
use Rattle.clause_encoder.specs.NameCounter.{counter_vars}
use Rattle.enumeration_journal.specs.Journals.{IsWholeJournal, journal_units}
use Rattle.enumeration_journal.specs.declared.kinds.Listed.TheVariants.{Smaller}
use Rattle.blocking_lists.specs.Lines.{ListLine, merged, AreBetween, AreForgetting, listed_in}
use Rattle.blocking_lists.specs.Search.{IsSearch, IsShortLog}
use Rattle.least_journal.specs.Least.{least_of, AreSmaller}
use Rattle.least_quorum.specs.Staying.{Stays, HoldsCounter, clause_of_size}

-- the size of the last set, or n where there is none
abbrev pub best_of : ℕ → List Table → ℕ
best_of n [] = n
best_of n (u ∷ us) = best_of (size u) us

-- what the next quorum has to be below: the size of the one listed last, or one more than the greatest quorum has nodes
abbrev pub best_in : Table → List ListLine → ℕ
best_in g lines = best_of (size g + 1) (listed_in Smaller lines)

-- no quorum is listed, or it is held that there are fewer nodes than in the one listed last
abbrev pub IsBounded : Solving → Table → ℕ → Type 0
IsBounded solver g best = (best ≡ size g + 1) ⊎ ((id : ℕ) × Stays solver id (clause_of_size g best))

-- no id above the last is that of a live lemma
abbrev pub AreLow : Solving → Type 0
AreLow solver = (id : ℕ) → solver.database.last < id → has_id (live_in solver.log) id ≡ false

-- the sets that are listed so far, among the steps of the solver's log; the quorums among them fall in size
pub record IsLeastListing (f : Fbas) (b : Nodes) (g : Table) (units left : ℕ) (lines : List ListLine) (solver : Solving) : Type 0 where
  pub top : ℕ
  pub between : AreBetween 0 (length solver.log) lines
  pub ids : All (λ l. IsId l.id) lines
  pub falling : AreSmaller (size g + 1) (listed_in Smaller lines)
  pub some : 0 < best_in g lines
  pub short : IsShortLog (counter_vars (size g)) solver.log
  pub search : IsSearch (least_of f b g) units left top (merged 0 lines solver.log) solver
  pub counter : HoldsCounter solver (size g)
  pub bound : IsBounded solver g (best_in g lines)
  pub low : AreLow solver
  pub limit : top + best_in g lines ≤ size g * size g + units + size g + 1

-- a listing whose solver came to the empty lemma
pub record IsWholeLeastListing (f : Fbas) (b : Nodes) (g : Table) (units left : ℕ) (lines : List ListLine) (log : List ProofStep) : Type 0 where
  pub between : AreBetween 0 (length log) lines
  pub ids : All (λ l. IsId l.id) lines
  pub falling : AreSmaller (size g + 1) (listed_in Smaller lines)
  pub some : 0 < best_in g lines
  pub short : IsShortLog (counter_vars (size g)) log
  pub journal_is : IsWholeJournal (least_of f b g) (merged 0 lines log)
  pub forgets : AreForgetting (least_of f b g) (least_of f b g).start (merged 0 lines log)
  pub taken : journal_units (least_of f b g) (merged 0 lines log) + left ≡ units
