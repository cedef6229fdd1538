use Rattle.std.proofs.Common.{◌≡◌, map, take}
use Rattle.std.specs.Prelude.{All}
use Rattle.serde_json.specs.View.{view}
use Rattle.config_text.specs.Written.{IsListed}
use Rattle.config_text.proofs.Trees.{tree_of_set}
use Rattle.config_text.proofs.tree.+set_tree.Given as goal

abbrev pub decreases-set_tree : goal.decreases-set_tree
decreases-set_tree l = goal.size-set_tree l

abbrev pub invariant-loop-one : goal.invariant-loop-one
invariant-loop-one l = (map view l.inner.items ≡ map (tree_of_set l.names) (take l.one-index l.one-items)) × All IsListed (take l.one-index l.one-items)
