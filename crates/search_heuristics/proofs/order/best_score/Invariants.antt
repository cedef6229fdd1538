use Rattle.std.proofs.Common.{◌≤◌}
use Rattle.search_heuristics.proofs.order.best_score.Given as goal

abbrev pub invariant-loop-left : goal.invariant-loop-left
invariant-loop-left l = l.left ≤ l.vars

abbrev pub decreases-loop-left : goal.decreases-loop-left
decreases-loop-left l = l.left
