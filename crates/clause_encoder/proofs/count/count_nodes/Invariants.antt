use Rattle.std.proofs.Common.{◌≡◌, length}
use Rattle.clause_encoder.specs.Formula.{side_from}
use Rattle.clause_encoder.specs.Known.{AreKnown}
use Rattle.clause_encoder.specs.SharedGates.{place_of, gates_in}
use Rattle.clause_encoder.specs.Written.{circuit_in}
use Rattle.clause_encoder.proofs.CountLaws.{CountingSide}
use Rattle.clause_encoder.proofs.count.count_nodes.Given as goal

abbrev pub invariant-loop-node : goal.invariant-loop-node
invariant-loop-node l = record {
  counting : CountingSide l.initial.shared.version (circuit_in l.circuits) (side_from l.fn.next) (place_of l.free l.shared) l.node-index l.nodes;
  version : l.shared.version ≡ l.initial.shared.version;
  same_kinds : length l.known ≡ length l.circuits.different;
  known : AreKnown (gates_in l.shared) l.circuits l.known;
}
