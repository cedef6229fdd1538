use Rattle.std.proofs.Common.{◌≡◌, map, take}
use Rattle.serde_json.specs.View.{view}
use Rattle.config_text.proofs.Trees.{tree_of_name}
use Rattle.config_text.proofs.tree.names_tree.Given as goal

abbrev pub invariant-loop-node : goal.invariant-loop-node
invariant-loop-node l = map view l.texts.items ≡ map (tree_of_name l.names) (take l.node-index l.nodes)
