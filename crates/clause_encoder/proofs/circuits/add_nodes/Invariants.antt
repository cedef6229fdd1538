use Rattle.fbas_model.specs.Nodes.{members}
use Rattle.std.proofs.Common.{length}
use Rattle.clause_encoder.specs.Formula.{circuit_at}
use Rattle.clause_encoder.proofs.CircuitTables.{Filled}
use Rattle.clause_encoder.proofs.circuits.add_nodes.Given as goal

abbrev pub invariant-loop-v : goal.invariant-loop-v
invariant-loop-v l = Filled (length l.system.sets) (members l.greatest) (circuit_at l.version l.system.sets l.faulty l.greatest) l.v l.different.keys l.kinds.items
