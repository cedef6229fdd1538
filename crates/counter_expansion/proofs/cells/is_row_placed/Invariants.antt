use Rattle.std.proofs.Common.{◌≡◌, ℕ, ◌+◌, ◌-◌, ◌≤◌}
use Rattle.counter_expansion.specs.Counters.{cell_at}
use Rattle.counter_expansion.proofs.cells.is_row_placed.Given as goal

abbrev pub invariant-loop-before : goal.invariant-loop-before
invariant-loop-before l = (j : ℕ) → 1 ≤ j → j ≤ l.before → cell_at l.cells (l.first + (j - 1)) ≡ record { gate = l.gate; row = l.row; column = j }
