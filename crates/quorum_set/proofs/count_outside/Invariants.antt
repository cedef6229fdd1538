use Rattle.std.proofs.Common.{◌≡◌, take}
use Rattle.std.specs.Prelude.{count_by}
use Rattle.fbas_model.specs.Nodes.{members, outside}
use Rattle.quorum_set.proofs.count_outside.Given as goal

abbrev pub invariant-loop-node : goal.invariant-loop-node
invariant-loop-node l = l.count ≡ count_by (outside (members l.s)) (take l.node-index l.nodes)
