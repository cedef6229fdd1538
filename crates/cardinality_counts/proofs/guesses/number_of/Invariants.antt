use Rattle.std.proofs.Common.{◌-◌}
use Rattle.cardinality_counts.proofs.guesses.number_of.Given as goal

abbrev pub decreases-loop-from : goal.decreases-loop-from
decreases-loop-from l = l.to - l.from
