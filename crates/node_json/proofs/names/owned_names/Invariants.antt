use Rattle.std.proofs.Common.{◌≡◌, map}
use Rattle.node_json.specs.View.{names_view}
use Rattle.node_json.proofs.names.owned_names.Given as goal

abbrev pub invariant-loop-name : goal.invariant-loop-name
invariant-loop-name l = map (λ name. name.items) l.list.items ≡ names_view l.yielded
