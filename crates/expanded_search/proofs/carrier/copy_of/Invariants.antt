use Rattle.std.proofs.Common.{◌-◌}
use Rattle.expanded_search.proofs.CarrierLaws.{IsPart}
use Rattle.expanded_search.proofs.carrier.copy_of.Given as goal

abbrev pub invariant-loop-above : goal.invariant-loop-above
invariant-loop-above l = IsPart l.store.held l.copy l.above

abbrev pub decreases-loop-above : goal.decreases-loop-above
decreases-loop-above l = l.last - l.above
