use Rattle.std.proofs.Common.{◌-◌, length}
use Rattle.fbas_plain.proofs.+meets_each_from.Given as goal

abbrev pub decreases-meets_each_from : goal.decreases-meets_each_from
decreases-meets_each_from l = length l.sets.now - l.v
