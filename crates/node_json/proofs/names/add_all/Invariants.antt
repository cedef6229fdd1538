use Rattle.std.proofs.Common.{◌≡◌, drop}
use Rattle.node_json.specs.NamesInOrder.{with_names}
use Rattle.node_json.specs.View.{names_view}
use Rattle.node_json.proofs.names.add_all.Given as goal

abbrev pub invariant-loop-name : goal.invariant-loop-name
invariant-loop-name l = with_names l.initial.names (names_view l.list) ≡ with_names l.names (names_view (drop l.name-index l.list))
