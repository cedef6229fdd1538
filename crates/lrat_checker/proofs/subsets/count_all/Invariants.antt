use Rattle.std.proofs.Common.{◌-◌}
use Rattle.lrat_checker.proofs.subsets.count_all.Given as goal

abbrev pub decreases-loop-id : goal.decreases-loop-id
decreases-loop-id l = l.last - l.above
