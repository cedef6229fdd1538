use Rattle.std.proofs.Common.{◌≤◌, ◌∙◌, ap, subst, sym}
use Rattle.lrat_model.specs.Literal.{variable_of}
use Rattle.lrat_model.proofs.Literals.{variable_of-negated}
use Rattle.cdcl_core.proofs.Walks.{has-at}
use Rattle.cdcl_core.proofs.growth.two_free.Goals as goal

pub is_true-requires : goal.is_true-requires
is_true-requires c =
    let m = c.m-item.result in
    subst (λ k. k ≤ c.args.assignment.now.vars) (sym (ap variable_of c.negated.ensures ∙ variable_of-negated m))
    (c.requires m (has-at c.args.clause.now c.loop-m.m-index m c.loop-m-test.true c.m-item.is))
