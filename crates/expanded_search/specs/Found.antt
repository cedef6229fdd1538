-- What a search finds over a formula.
use Rattle.std.specs.Prelude.{◌≡◌, ℕ, ◌+◌, ◌*◌, ◌≤◌, List, length, All}
use Rattle.lrat_model.specs.Clauses.{IsUnsatisfiable}
use Rattle.lrat_model.specs.Steps.{ProofStep, Database}
use Rattle.lrat_model.specs.Runs.{Run}
use Rattle.lrat_model.specs.Propagation.{Closes}
use Rattle.lrat_model.specs.Lemmas.{IsDue}
use Rattle.lrat_text.specs.Texts.{HasNumbers}
use Rattle.cdcl_core.specs.Log.{AreLemmas, EndsEmpty, HasNoEmptyLemma, IsBoundedLog, units}

-- a log over a formula, from its clauses to what is held at the end: each step is taken and is a useful lemma, or a deletion of such within the bounds, and its line says it; there is at most one step more than twice the units
pub record IsLogOver (vars : ℕ) (formula : Database) (log : List ProofStep) (new : Database) : Type 0 where
  pub run : Run vars formula log new
  pub lemmas : AreLemmas vars formula log
  pub bounded : IsBoundedLog vars log
  pub short : length log ≤ 2 * units log + 1
  pub numbers : All HasNumbers log

-- the log refutes the formula within these units
pub record IsRefuting (vars : ℕ) (formula : Database) (budget : ℕ) (log : List ProofStep) : Type 0 where
  pub refuted : IsUnsatisfiable formula.held
  pub new : Database
  pub run : IsLogOver vars formula log new
  pub ends : EndsEmpty log
  pub taken : units log ≤ budget

-- the log takes all these units, and a lemma is due
pub record IsSpending (vars : ℕ) (formula : Database) (budget : ℕ) (log : List ProofStep) : Type 0 where
  pub new : Database
  pub run : IsLogOver vars formula log new
  pub unrefuted : HasNoEmptyLemma log
  pub taken : units log ≡ budget
  pub unclosed : Closes new.held → ⊥
  pub due : IsDue new.held
