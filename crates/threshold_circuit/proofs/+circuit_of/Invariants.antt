use Rattle.std.proofs.Common.{length, drop}
use Rattle.fbas_model.specs.Nodes.{members}
use Rattle.fbas_model.specs.QuorumSets.{AreBelow}
use Rattle.fbas_model.specs.Lists.{inner_entries}
use Rattle.threshold_circuit.specs.Simplified.{simplified_entries}
use Rattle.threshold_circuit.specs.Views.{inputs_view}
use Rattle.threshold_circuit.proofs.GatheredLaws.{StillGathers}
use Rattle.threshold_circuit.proofs.+circuit_of.Given as goal

abbrev pub decreases-circuit_of : goal.decreases-circuit_of
decreases-circuit_of l = goal.size-circuit_of l

abbrev pub invariant-loop-inner : goal.invariant-loop-inner
invariant-loop-inner l = record {
  below : AreBelow (length l.greatest) (inner_entries (drop l.inner-index l.inner-items));
  still : StillGathers l.initial.gathered.threshold l.gathered.threshold (inputs_view l.initial.gathered.entries.items) (inputs_view l.gathered.entries.items)
      (simplified_entries (members l.greatest) (members l.faulty) (inner_entries l.inner-items))
      (simplified_entries (members l.greatest) (members l.faulty) (inner_entries (drop l.inner-index l.inner-items)));
}
