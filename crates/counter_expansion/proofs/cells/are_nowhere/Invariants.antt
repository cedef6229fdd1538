use Rattle.std.proofs.Common.{◌≡◌}
use Rattle.counter_expansion.specs.Counters.{cell_at}
use Rattle.counter_expansion.proofs.Lists.{AllBefore}
use Rattle.counter_expansion.proofs.cells.are_nowhere.Given as goal

abbrev pub invariant-loop-variable : goal.invariant-loop-variable
invariant-loop-variable l = AllBefore (λ v. (cell_at l.cells v).row ≡ 0) l.variables l.variable-index
