use Rattle.std.proofs.Common.{◌∙◌}
use Rattle.clause_encoder.proofs.SharedGates.{among_is}
use Rattle.clause_encoder.proofs.shared_gates.SharedGates.find.Goals as goal

pub returns : goal.returns
returns c = c.copied.ensures ∙ (c.get.ensures.value ∙ among_is c.args.circuit.now c.args.self.now.gates.entries)
