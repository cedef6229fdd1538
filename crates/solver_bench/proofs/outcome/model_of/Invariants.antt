use Rattle.std.proofs.Common.{◌-◌, ◌≤◌}
use Rattle.solver_bench.proofs.outcome.model_of.Given as goal

abbrev pub invariant-loop-x : goal.invariant-loop-x
invariant-loop-x l = l.x ≤ l.vars

abbrev pub decreases-loop-x : goal.decreases-loop-x
decreases-loop-x l = l.vars - l.x
