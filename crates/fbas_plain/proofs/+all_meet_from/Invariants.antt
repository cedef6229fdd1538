use Rattle.std.proofs.Common.{◌-◌, length}
use Rattle.fbas_plain.proofs.+all_meet_from.Given as goal

abbrev pub decreases-all_meet_from : goal.decreases-all_meet_from
decreases-all_meet_from l = length l.sets.now - l.v
