use Rattle.std.proofs.Common.{◌≡◌, drop}
use Rattle.threshold_circuit.specs.Gathering.{joined}
use Rattle.threshold_circuit.specs.Ordered.{each_ordered}
use Rattle.threshold_circuit.specs.Views.{inputs_view}
use Rattle.threshold_circuit.proofs.Circuit.+ordered.Given as goal

abbrev pub decreases-ordered : goal.decreases-ordered
decreases-ordered l = goal.size-ordered l

abbrev pub invariant-loop-entry : goal.invariant-loop-entry
invariant-loop-entry l = joined (inputs_view l.sorted.items) (each_ordered (inputs_view (drop l.entry-index l.entry-items))) ≡ each_ordered (inputs_view l.entry-items)
