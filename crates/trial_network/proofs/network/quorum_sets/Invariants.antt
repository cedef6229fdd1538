use Rattle.std.proofs.Common.{◌≡◌, ◌≤◌, ◌*◌, replicate, Some}
use Rattle.trial_network.specs.Trial.{trial_set}
use Rattle.trial_network.proofs.network.quorum_sets.Given as goal

abbrev pub invariant-loop-node : goal.invariant-loop-node
invariant-loop-node l = (l.sets.items ≡ replicate l._node (Some (trial_set l.n))) × (l._node ≤ 3 * l.n)
