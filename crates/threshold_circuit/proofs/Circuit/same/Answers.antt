use Rattle.std.proofs.Common.{◌∙◌}
use Rattle.threshold_circuit.proofs.EqLaws.{eq_is}
use Rattle.threshold_circuit.proofs.Circuit.same.Goals as goal

pub returns : goal.returns
returns c = c.eq.ensures ∙ eq_is c.args.self.now c.args.other.now
