use Rattle.std.proofs.Common.{◌-◌, length}
use Rattle.fbas_model.specs.Nodes.{size}
use Rattle.fbas_core.proofs.Closing.{Closing}
use Rattle.fbas_core.proofs.System.closure.Given as goal

abbrev pub invariant-loop-node : goal.invariant-loop-node
invariant-loop-node l = Closing l.self.sets l.v l.reached l.visited

abbrev pub decreases-loop-node : goal.decreases-loop-node
decreases-loop-node l = length l.self.sets - size l.visited
