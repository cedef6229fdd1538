-- Clauses that were given to a solver, and stay.
use Rattle.std.specs.Prelude.{◌≡◌, ℕ, ◌≤◌, false, List, [], ◌∷◌, Some}
use Rattle.fbas_model.specs.Nodes.{Table, size}
use Rattle.lrat_model.specs.Literal.{Literal, Minus}
use Rattle.lrat_model.specs.Clauses.{clause_at, has_id, numbered}
use Rattle.cdcl_core.specs.Log.{live_in}
use Rattle.cdcl_core.specs.Solving.{Solving}
use Rattle.clause_encoder.specs.NameCounter.{counted, counter_of}

-- the clause is held under an id that is no lemma's
pub record Stays (solver : Solving) (id : ℕ) (clause : List Literal) : Type 0 where
  pub held : clause_at solver.database.held id ≡ Some clause
  pub given : has_id (live_in solver.log) id ≡ false
  pub low : id ≤ solver.database.last

-- the clauses of the counter of g names are held
abbrev pub HoldsCounter : Solving → ℕ → Type 0
HoldsCounter solver g = (id : ℕ) (clause : List Literal) → clause_at (numbered 1 (counter_of g)) id ≡ Some clause → Stays solver id clause

-- fewer than n nodes of the greatest quorum g
abbrev pub clause_of_size : Table → ℕ → List Literal
clause_of_size g n = Minus (counted (size g) (size g) n) ∷ []
