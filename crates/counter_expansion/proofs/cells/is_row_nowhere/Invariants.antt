use Rattle.std.proofs.Common.{ℕ, ◌+◌, ◌-◌, ◌≤◌}
use Rattle.counter_expansion.specs.Counters.{IsNowhere}
use Rattle.counter_expansion.proofs.cells.is_row_nowhere.Given as goal

abbrev pub invariant-loop-before : goal.invariant-loop-before
invariant-loop-before l = (j : ℕ) → 1 ≤ j → j ≤ l.before → IsNowhere l.cells (l.first + (j - 1))
