use Rattle.std.proofs.Common.{◌-◌, length}
use Rattle.search_heuristics.proofs.plan.first_decision.Given as goal

abbrev pub decreases-loop-place : goal.decreases-loop-place
decreases-loop-place l = length l.reasons - l.place
