use Rattle.std.proofs.Common.{◌≡◌, ◌++◌, drop, option_map}
use Rattle.node_json.specs.Tree.{items_view}
use Rattle.node_json.specs.Reading.{keys_in}
use Rattle.node_json.specs.View.{names_view}
use Rattle.node_json.proofs.keys.read_keys.Given as goal

abbrev pub invariant-loop-item : goal.invariant-loop-item
invariant-loop-item l = keys_in (items_view l.items) ≡ option_map (λ rest. names_view l.keys.items ++ rest) (keys_in (items_view (drop l.item-index l.items)))
