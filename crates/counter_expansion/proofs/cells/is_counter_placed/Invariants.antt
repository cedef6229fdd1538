use Rattle.std.proofs.Common.{◌≡◌, ℕ, ◌+◌, ◌-◌, ◌≤◌}
use Rattle.counter_expansion.specs.Gates.{IsPlace}
use Rattle.counter_expansion.specs.Counters.{cell_at, number_at, gate_of}
use Rattle.counter_expansion.proofs.cells.is_counter_placed.Given as goal

abbrev pub invariant-loop-above : goal.invariant-loop-above
invariant-loop-above l = (i j : ℕ) → IsPlace (gate_of l.counter) i j → i ≤ l.above → cell_at l.cells (number_at l.counter.rows.items i + (j - 1)) ≡ record { gate = l.gate; row = i; column = j }
