-- The clauses held in the order of their ids.
use Rattle.std.specs.Prelude.{◌≡◌, ℕ, ◌<◌, List, Some, None}
use Rattle.lrat_model.specs.Literal.{Literal}
use Rattle.lrat_model.specs.Clauses.{Held, clause_at}

-- the clause is held under the least id above this one
pub record IsFirstAbove (held : Held) (id next : ℕ) (clause : List Literal) : Type 0 where
  pub above : id < next
  pub there : clause_at held next ≡ Some clause
  pub nothing_between : (k : ℕ) → id < k → k < next → clause_at held k ≡ None
