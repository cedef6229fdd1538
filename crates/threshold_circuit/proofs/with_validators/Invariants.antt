use Rattle.std.proofs.Common.{drop, []}
use Rattle.fbas_model.specs.Nodes.{members}
use Rattle.fbas_model.specs.Lists.{entries_of}
use Rattle.threshold_circuit.specs.Simplified.{simplified_entries}
use Rattle.threshold_circuit.specs.Views.{inputs_view}
use Rattle.threshold_circuit.proofs.GatheredLaws.{StillGathers}
use Rattle.threshold_circuit.proofs.with_validators.Given as goal

abbrev pub invariant-loop-node : goal.invariant-loop-node
invariant-loop-node l =
    StillGathers l.fn.gathered.threshold l.gathered.threshold (inputs_view l.fn.gathered.entries.items) (inputs_view l.gathered.entries.items)
    (simplified_entries (members l.greatest) (members l.faulty) (entries_of l.validators []))
    (simplified_entries (members l.greatest) (members l.faulty) (entries_of (drop l.node-index l.validators) []))
