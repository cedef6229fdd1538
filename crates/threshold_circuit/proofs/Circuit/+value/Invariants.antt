use Rattle.std.proofs.Common.{◌≡◌, length, ◌+◌, ◌≤◌, drop}
use Rattle.fbas_model.specs.Nodes.{members}
use Rattle.threshold_circuit.specs.Circuits.{AllNodesBelow}
use Rattle.threshold_circuit.specs.Value.{count_true}
use Rattle.threshold_circuit.specs.Views.{inputs_view}
use Rattle.threshold_circuit.proofs.Circuit.+value.Given as goal

abbrev pub decreases-value : goal.decreases-value
decreases-value l = goal.size-value l

abbrev pub invariant-loop-entry : goal.invariant-loop-entry
invariant-loop-entry l = record {
  within : l.count ≤ l.entry-index;
  counted : l.count + count_true (members l.set) (inputs_view (drop l.entry-index l.entry-items)) ≡ count_true (members l.set) (inputs_view l.entry-items);
  below : AllNodesBelow (length l.set) (inputs_view (drop l.entry-index l.entry-items));
}
