-- Clauses that say more than a list of literals.
use Rattle.std.specs.Prelude.{◌≡◌, ℕ, ◌<◌, List, Some}
use Rattle.lrat_model.specs.Literal.{Literal, IsSubset}
use Rattle.lrat_model.specs.Clauses.{Held, clause_at}

-- a clause held under a smaller id is a subset of the list
abbrev pub Covers : Held → ℕ → List Literal → Type 0
Covers held id literals = (k : ℕ) × (clause : List Literal) × (k < id) × (clause_at held k ≡ Some clause) × IsSubset clause literals
