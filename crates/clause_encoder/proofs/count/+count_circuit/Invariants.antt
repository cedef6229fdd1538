use Rattle.std.proofs.Common.{◌≡◌}
use Rattle.clause_encoder.specs.SharedGates.{place_of}
use Rattle.clause_encoder.proofs.CountLaws.{Counting}
use Rattle.clause_encoder.proofs.count.+count_circuit.Given as goal

abbrev pub decreases-count_circuit : goal.decreases-count_circuit
decreases-count_circuit l = goal.size-count_circuit l

abbrev pub invariant-loop-entry : goal.invariant-loop-entry
invariant-loop-entry l = record {
  counting : Counting l.initial.shared.version (place_of l.fn.next l.initial.shared) (place_of l.free l.shared) l.entry-index l.entry-items;
  version : l.shared.version ≡ l.initial.shared.version;
}
