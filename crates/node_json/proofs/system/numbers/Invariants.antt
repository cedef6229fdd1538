use Rattle.std.proofs.Common.{◌≡◌, map, take}
use Rattle.node_json.specs.Configuration.{number_of}
use Rattle.node_json.specs.View.{names_view}
use Rattle.node_json.proofs.system.numbers.Given as goal

abbrev pub invariant-loop-name : goal.invariant-loop-name
invariant-loop-name l = l.numbers.items ≡ map (number_of l.names) (names_view (take l.name-index l.list))
