use Rattle.std.proofs.Common.{◌∷◌, ◌++◌, [], ap, ◌∙◌}
use Rattle.lrat_model.specs.Literal.{Literal}
use Rattle.clause_encoder.proofs.CounterWriting.{some_more}
use Rattle.clause_encoder.proofs.gates.some_clause.Goals as goal

pub loop-x-preserved : goal.loop-x-preserved
loop-x-preserved c =
    some_more c.args.z c.args.inputs.now c.loop-x.x-index c.x-item.result c.loop-x.clause.items c.push-in-loop-x.new.self.items c.loop-x-test.true c.x-item.is
    (c.in_ok-push-2.ensures.items ∙ ap (λ (l : Literal). c.loop-x.clause.items ++ l ∷ []) c.plus.ensures) c.loop-x.invariant
