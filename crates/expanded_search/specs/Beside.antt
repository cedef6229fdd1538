-- What is held over the formula beside what is held over its gates written out.
use Rattle.std.specs.Prelude.{◌≡◌, ◌⊎◌, ℕ, ◌+◌, ◌<◌, ◌≤◌, List, Some, None}
use Rattle.lrat_model.specs.Literal.{Literal}
use Rattle.lrat_model.specs.Clauses.{clause_at}
use Rattle.lrat_model.specs.Steps.{Database}
use Rattle.counter_expansion.specs.Gates.{Gates, AreOuter}

-- beside the formula and what is written out in its place: the same lemmas are held past the one and past the other, without literals of places, and all that is written out still is
pub record AreBeside (gates : Gates) (formula written now beside : Database) : Type 0 where
  pub last : (past : ℕ) × (now.last ≡ formula.last + past) × (beside.last ≡ written.last + past)
  pub lemmas : (id : ℕ) (clause : List Literal) → clause_at now.held id ≡ Some clause → (clause_at formula.held id ≡ Some clause) ⊎ ((past : ℕ) × (1 ≤ past) × (id ≡ formula.last + past) × (clause_at beside.held (written.last + past) ≡ Some clause) × AreOuter gates clause)
  pub kept : (id : ℕ) (clause : List Literal) → id ≤ written.last → clause_at written.held id ≡ Some clause → clause_at beside.held id ≡ Some clause
  pub fresh : (id : ℕ) → beside.last < id → clause_at beside.held id ≡ None
