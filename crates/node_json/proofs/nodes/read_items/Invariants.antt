use Rattle.std.proofs.Common.{◌≡◌, [], ◌++◌, drop}
use Rattle.node_json.specs.Tree.{items_view}
use Rattle.node_json.specs.Configuration.{all_names}
use Rattle.node_json.specs.NamesInOrder.{in_order, with_names}
use Rattle.node_json.specs.Reading.{nodes_from, after}
use Rattle.node_json.specs.View.{names_view, nodes_view}
use Rattle.node_json.proofs.NodeReading.{keys_of}
use Rattle.node_json.proofs.nodes.read_items.Given as goal

abbrev pub invariant-loop-i : goal.invariant-loop-i
invariant-loop-i l =
    (nodes_from 0 [] (items_view l.items) ≡ after (λ more. nodes_view l.nodes.items ++ more) (nodes_from l.i (keys_of l.nodes.items) (items_view (drop l.i l.items))))
    × (names_view l.keys.keys ≡ in_order (keys_of l.nodes.items))
    × (l.names ≡ with_names l.initial.names (all_names (nodes_view l.nodes.items)))
