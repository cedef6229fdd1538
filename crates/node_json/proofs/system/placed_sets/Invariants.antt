use Rattle.std.proofs.Common.{◌≡◌, map, take, option_map}
use Rattle.node_json.specs.Configuration.{numbered, set_named}
use Rattle.node_json.specs.View.{nodes_view}
use Rattle.node_json.proofs.system.placed_sets.Given as goal

abbrev pub invariant-loop-node : goal.invariant-loop-node
invariant-loop-node l = l.sets.items ≡ map (λ name. option_map (numbered l.names) (set_named (nodes_view (take l.node-index l.nodes)) name)) l.names
