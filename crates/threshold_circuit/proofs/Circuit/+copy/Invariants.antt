use Rattle.std.proofs.Common.{◌≡◌, drop}
use Rattle.threshold_circuit.specs.Views.{inputs_view}
use Rattle.threshold_circuit.specs.Gathering.{joined}
use Rattle.threshold_circuit.proofs.Circuit.+copy.Given as goal

abbrev pub decreases-copy : goal.decreases-copy
decreases-copy l = goal.size-copy l

abbrev pub invariant-loop-entry : goal.invariant-loop-entry
invariant-loop-entry l = joined (inputs_view l.copies.items) (inputs_view (drop l.entry-index l.entry-items)) ≡ inputs_view l.entry-items
