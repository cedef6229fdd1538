use Rattle.std.proofs.Common.{◌-◌, length}
use Rattle.counter_expansion.proofs.choices.+choose.Given as goal

abbrev pub decreases-choose : goal.decreases-choose
decreases-choose l = length l.inputs.now - l.from
