-- What becomes of a clause where gates are written out.
use Rattle.std.specs.Prelude.{◌≡◌, ◌⊎◌, List, All}
use Rattle.lrat_model.specs.Literal.{Literal, variable_of}
use Rattle.lrat_model.specs.Clauses.{Held}
use Rattle.counter_expansion.specs.Finding.{IsHeld}
use Rattle.counter_expansion.specs.Gates.{IsOfCounter}
use Rattle.counter_expansion.specs.Counters.{gates_of, cell_at}
use Rattle.counter_expansion.specs.declared.counters.Counter.{Counter}
use Rattle.counter_expansion.specs.declared.cells.Cell.{Cell}

-- a clause has no place's literal and is held after, or is one of a counter
abbrev pub IsPassed : List Counter → List Cell → Held → List Literal → Type 0
IsPassed counters cells after clause = (All (λ l. (cell_at cells (variable_of l)).row ≡ 0) clause × IsHeld after clause) ⊎ IsOfCounter (gates_of counters) clause
