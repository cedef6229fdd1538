use Rattle.std.proofs.Common.{◌≡◌, take, length}
use Rattle.fbas_model.specs.Names.{marks}
use Rattle.node_json.specs.View.{names_view}
use Rattle.node_json.proofs.organisations.marked.Given as goal

abbrev pub invariant-loop-name : goal.invariant-loop-name
invariant-loop-name l = (length l.nodes ≡ length l.names) × (l.nodes ≡ marks l.names (names_view (take l.name-index l.list)))
