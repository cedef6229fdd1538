use Rattle.std.proofs.Common.{ap}
use Rattle.lrat_model.specs.Steps.{step_of}
use Rattle.lrat_model.specs.Rules.{step_fault_by}
use Rattle.reach_kinds.specs.Bodies.{and_then, is_old_step, list_step}
use Rattle.reach_kinds.proofs.Refused.{refused_or_memory}
use Rattle.reach_kinds.proofs.list_steps.list_step.Goals as goal

pub returns-clause-err : goal.returns-clause-err
returns-clause-err c =
    let k = c.args.listing.now in
    let l = c.args.line in
    let step = step_of c.in_ok-literal.literal in
    refused_or_memory c.take_counted_step.result l (is_old_step k step) (step_fault_by k.checker.rule k.checker.vars k.checker.database step) _ _ _ (ap (and_then (list_step k l)) c.in_ok-literal.ensures.ok) c.take_counted_step.ensures.err
