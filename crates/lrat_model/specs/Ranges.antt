-- Literals among a number of variables.
use Rattle.std.specs.Prelude.{ℕ, ◌≤◌, List, All}
use Rattle.lrat_model.specs.Literal.{Literal, variable_of}
use Rattle.lrat_model.specs.Clauses.{Held}

-- each literal is one of the variables up to vars, or its negation
abbrev pub IsInRange : ℕ → List Literal → Type 0
IsInRange vars literals = All (λ l. variable_of l ≤ vars) literals

-- each clause held is in range
abbrev pub AreInRange : ℕ → Held → Type 0
AreInRange vars held = All (λ e. IsInRange vars e.1) held
