use Rattle.std.proofs.Common.{◌≡◌, ◌≤◌, map, vec_len}
use Rattle.trial_network.specs.Trial.{names_from}
use Rattle.trial_network.proofs.InOrder.{items_of_name}
use Rattle.trial_network.proofs.network.node_names.Given as goal

abbrev pub invariant-loop-at : goal.invariant-loop-at
invariant-loop-at l = (map items_of_name l.list.items ≡ names_from 0 l.at) × (l.at ≤ l.nodes) × (vec_len l.list ≡ l.at)
