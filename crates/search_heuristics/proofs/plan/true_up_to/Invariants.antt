use Rattle.std.proofs.Common.{◌-◌, length}
use Rattle.search_heuristics.proofs.plan.true_up_to.Given as goal

abbrev pub decreases-loop-place : goal.decreases-loop-place
decreases-loop-place l = length l.lits - l.place
