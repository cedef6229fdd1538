use Rattle.std.proofs.Common.{length, ap, subst, sym, ◌∙◌}
use Rattle.std.proofs.lemmas.Result.{IfOk-weaker}
use Rattle.clause_encoder.specs.Formula.{in_version}
use Rattle.clause_encoder.specs.Written.{IsWritable}
use Rattle.clause_encoder.proofs.InVersion.{writable_in}
use Rattle.clause_encoder.proofs.nodes.node_circuit.Goals as goal

pub returns-clause-circuit : goal.returns-clause-circuit
returns-clause-circuit c member = IfOk-weaker c.in_version.result _ _ (λ d is. is ∙ ap (in_version c.args.version) (c.in_ok-circuit.ensures.circuit member)) c.in_version.ensures

pub returns-clause-writable : goal.returns-clause-writable
returns-clause-writable c = IfOk-weaker c.in_version.result _ _ (λ d is. subst (IsWritable (length c.args.system.now.sets)) (sym is) (writable_in c.args.version _ _ c.in_ok-circuit.ensures.writable)) c.in_version.ensures
