use Rattle.std.proofs.Common.{◌≡◌, map, take}
use Rattle.whatif_session.specs.Names.{number_after}
use Rattle.whatif_session.proofs.naming.moved_nodes.Given as goal

abbrev pub invariant-loop-node : goal.invariant-loop-node
invariant-loop-node l = l.moved.items ≡ map (number_after l.place) (take l.node-index l.nodes)
