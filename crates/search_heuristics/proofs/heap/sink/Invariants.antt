use Rattle.std.proofs.Common.{◌-◌}
use Rattle.search_heuristics.proofs.heap.sink.Given as goal

abbrev pub decreases-loop-at : goal.decreases-loop-at
decreases-loop-at l = l.size - l.at
