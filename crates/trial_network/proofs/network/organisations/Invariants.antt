use Rattle.std.proofs.Common.{◌≡◌, ◌≤◌}
use Rattle.trial_network.proofs.InOrder.{sets_from}
use Rattle.trial_network.proofs.network.organisations.Given as goal

abbrev pub invariant-loop-at : goal.invariant-loop-at
invariant-loop-at l = (l.sets.items ≡ sets_from 0 l.at) × (l.at ≤ l.n)
