use Rattle.std.proofs.Common.{◌≡◌, map, take}
use Rattle.std.specs.Prelude.{All, IfSome}
use Rattle.serde_json.specs.View.{view}
use Rattle.config_text.specs.Written.{nodes_data, nodes_named, IsListed}
use Rattle.config_text.proofs.Items.{onto}
use Rattle.config_text.proofs.Trees.{nodes_after}
use Rattle.config_text.proofs.tree.config_tree.Given as goal

abbrev pub invariant-loop-v : goal.invariant-loop-v
invariant-loop-v l = (onto (map view l.nodes.items) (nodes_after l.system l.v) ≡ nodes_data (nodes_named l.system)) × All (λ o. IfSome o IsListed) (take l.v l.system.sets)
