-- The clauses held, as a program's list of them.
use Rattle.std.specs.Prelude.{ℕ, List, map}
use Rattle.std.specs.Global.{Vec}
use Rattle.lrat_model.specs.Literal.{Literal}
use Rattle.lrat_model.specs.Clauses.{Held}

-- each entry with its clause as a list
abbrev pub held_of : List (ℕ × Vec Literal) → Held
held_of entries = map (λ e. (e.0, e.1.items)) entries
