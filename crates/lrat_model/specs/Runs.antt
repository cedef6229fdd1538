-- Runs of steps.
use Rattle.std.specs.Prelude.{◌≡◌, ℕ, List, [], ◌∷◌, length, None}
use Rattle.lrat_model.specs.Literal.{Literal}
use Rattle.lrat_model.specs.Clauses.{numbered}
use Rattle.lrat_model.specs.Steps.{ProofStep, Database, step_fault, after_step}

-- the steps, each taken without a fault, lead from one database to the other
abbrev pub Run : ℕ → Database → List ProofStep → Database → Type 0
Run vars old [] new = new ≡ old
Run vars old (step ∷ steps) new = (step_fault vars old step ≡ None) × Run vars (after_step old step) steps new

-- the clauses of a formula, held under the ids from 1 on
abbrev pub formula_database : List (List Literal) → Database
formula_database clauses = record { held = numbered 1 clauses; last = length clauses }
