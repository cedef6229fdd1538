use Rattle.std.proofs.Common.{◌≡◌, ℕ, ◌<◌}
use Rattle.lrat_model.specs.Literal.{variable_of}
use Rattle.counter_expansion.specs.Gates.{IsPlace}
use Rattle.counter_expansion.specs.Counters.{cell_at, gates_of}
use Rattle.counter_expansion.proofs.cells.are_placed.Given as goal

abbrev pub invariant-loop-g : goal.invariant-loop-g
invariant-loop-g l = (g i j : ℕ) → IsPlace (gates_of l.counters g) i j → g < l.g → cell_at l.cells (variable_of ((gates_of l.counters g).s i j)) ≡ record { gate = g; row = i; column = j }
