use Rattle.std.proofs.Common.{◌≡◌, ◌+◌, ◌≤◌, drop}
use Rattle.fbas_model.specs.declared.TheConstants.{MOST_ENTRIES}
use Rattle.threshold_circuit.specs.Circuits.{all_inputs_of, HaveThresholds}
use Rattle.threshold_circuit.specs.Gates.{gate_variables_of}
use Rattle.threshold_circuit.specs.Views.{inputs_view}
use Rattle.threshold_circuit.proofs.Circuit.+gate_vars.Given as goal

abbrev pub decreases-gate_vars : goal.decreases-gate_vars
decreases-gate_vars l = goal.size-gate_vars l

abbrev pub invariant-loop-entry : goal.invariant-loop-entry
invariant-loop-entry l = record {
  counted : l.count + gate_variables_of (inputs_view (drop l.entry-index l.entry-items)) ≡ gate_variables_of (inputs_view l.entry-items);
  few : all_inputs_of (inputs_view (drop l.entry-index l.entry-items)) ≤ MOST_ENTRIES;
  thresholds : HaveThresholds (inputs_view (drop l.entry-index l.entry-items));
}
