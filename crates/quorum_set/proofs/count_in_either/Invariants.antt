use Rattle.std.proofs.Common.{◌≡◌, take}
use Rattle.std.specs.Prelude.{count_by}
use Rattle.fbas_model.specs.Nodes.{members, ◌∪◌}
use Rattle.quorum_set.proofs.count_in_either.Given as goal

abbrev pub invariant-loop-node : goal.invariant-loop-node
invariant-loop-node l = l.count ≡ count_by (members l.u ∪ members l.faulty) (take l.node-index l.nodes)
