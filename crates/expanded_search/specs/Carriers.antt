-- What a carrier has, and what a step does to it.
use Rattle.std.specs.Prelude.{◌≡◌, ℕ, ◌+◌, ◌<◌, ◌≤◌, ◌^◌, List, [], ◌∷◌, ◌++◌, length, All, None, ℤ}
use Rattle.lrat_model.specs.Literal.{Literal, variable_of}
use Rattle.lrat_model.specs.Steps.{ProofStep, Addition, Deletion, Database, step_of, step_fault, after_step}
use Rattle.lrat_model.specs.Runs.{Run}
use Rattle.lrat_model.specs.declared.step.Rule.TheVariants.{Rup}
use Rattle.lrat_model.specs.declared.step.Step.{Step}
use Rattle.lrat_text.specs.Texts.{HasNumbers}
use Rattle.cdcl_core.specs.Log.{AreLemmas, NamesClause}
use Rattle.counter_expansion.specs.Counters.{cell_at}
use Rattle.counter_expansion.specs.declared.cells.Cell.{Cell}
use Rattle.expanded_search.specs.Moved.{AreMoved}
use Rattle.expanded_search.specs.declared.carrier.Carrier.{Carrier}

-- the checker takes steps without RAT hints, and is between two
pub record IsReady (c : Carrier) : Type 0 where
  pub vars : c.checker.vars ≡ c.vars
  pub rule : c.checker.rule ≡ Rup
  pub closed : c.checker.open_addition ≡ None
  pub small : c.vars < 2 ^ 31

-- no literal is that of a place
abbrev pub AreLitsNowhere : List Cell → List Literal → Type 0
AreLitsNowhere cells lits = All (λ l. (cell_at cells (variable_of l)).row ≡ 0) lits

-- the lemma is shown under the next id by these hints, few, each of a clause held, and has no literal of a place
pub record IsShown (cells : List Cell) (vars : ℕ) (held : Database) (lits : List Literal) (hints : List ℤ) : Type 0 where
  pub taken : step_fault vars held (Addition (held.last + 1) lits hints) ≡ None
  pub named : All (NamesClause held.held) hints
  pub few : length hints ≤ vars + 1
  pub numbers : HasNumbers (Addition (held.last + 1) lits hints)
  pub outer : AreLitsNowhere cells lits

-- the step says a lemma that is shown
abbrev pub Shows : List Cell → ℕ → Database → List Literal → Step → Type 0
Shows cells vars held lits step = (hints : List ℤ) × (step_of step ≡ Addition (held.last + 1) lits hints) × IsShown cells vars held lits hints

-- the checker has taken the step
pub record HasChecked (old new : Carrier) (step : ProofStep) : Type 0 where
  pub ready : IsReady new
  pub database : new.checker.database ≡ after_step old.checker.database step
  pub vars : new.vars ≡ old.vars

-- the step is taken and logged
pub record HasStep (old new : Carrier) (step : ProofStep) : Type 0 where
  pub checked : HasChecked old new step
  pub log : new.log ≡ old.log ++ step ∷ []

-- the lemma is shown, taken and logged
abbrev pub HasLemma : List Cell → Carrier → Carrier → List Literal → Type 0
HasLemma cells old new lits = (hints : List ℤ) × IsShown cells old.vars old.checker.database lits hints × HasStep old new (Addition (old.checker.database.last + 1) lits hints)

-- the deletion of these lemmas, under their new ids, is taken and logged
abbrev pub HasDeletion : ℕ → ℕ → List ℕ → Carrier → Carrier → Type 0
HasDeletion from to ids old new =
    (news : List ℕ) × AreMoved from to ids news × (step_fault old.vars old.checker.database (Deletion old.checker.database.last news) ≡ None)
    × HasNumbers (Deletion old.checker.database.last news) × HasStep old new (Deletion old.checker.database.last news)

-- a step was carried over and the search goes on: a lemma with a literal, which takes a unit, or a deletion
abbrev pub GoesOn : List Cell → ℕ → ℕ → ProofStep → Carrier → ℕ → Carrier → ℕ → Type 0
GoesOn cells from to (Addition id lits hints) old left new more = (0 < length lits) × (more + 1 ≡ left) × HasLemma cells old new lits
GoesOn cells from to (Deletion id ids) old left new more = (more ≡ left) × HasDeletion from to ids old new

-- the empty lemma was carried over
abbrev pub Refutes : List Cell → ProofStep → Carrier → Carrier → Type 0
Refutes cells (Addition id lits hints) old new = (lits ≡ []) × HasLemma cells old new lits
Refutes cells (Deletion id ids) old new = ⊥

-- no unit is left for a lemma with a literal, which is shown
abbrev pub WantsUnit : List Cell → ProofStep → Carrier → ℕ → Type 0
WantsUnit cells (Addition id lits hints) old left = (0 < length lits) × (left ≡ 0) × ((more : List ℤ) × IsShown cells old.vars old.checker.database lits more)
WantsUnit cells (Deletion id ids) old left = ⊥

-- what is carried over the formula so far is a log of it
pub record IsCarried (vars : ℕ) (formula : Database) (c : Carrier) : Type 0 where
  pub ready : IsReady c
  pub variables : c.vars ≡ vars
  pub run : Run vars formula c.log c.checker.database
  pub lemmas : AreLemmas vars formula c.log
  pub numbers : All HasNumbers c.log
