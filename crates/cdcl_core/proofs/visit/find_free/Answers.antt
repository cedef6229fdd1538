use Rattle.std.proofs.Common.{◌≤◌, ◌∙◌, ap, subst, sym, arith}
use Rattle.lrat_model.specs.Literal.{variable_of}
use Rattle.lrat_model.proofs.Literals.{variable_of-negated}
use Rattle.cdcl_core.proofs.Walks.{has-at}
use Rattle.cdcl_core.proofs.visit.find_free.Goals as goal

pub is_true-requires : goal.is_true-requires
is_true-requires g c =
    let m = c.at-m.result in
    subst (λ k. k ≤ c.args.assignment.now.vars) (sym (ap variable_of c.negated.ensures ∙ variable_of-negated m))
    (c.requires m (has-at (g.V.ClauseView.literals c.args.clause.now) c.loop-i.i m (omega (arith, c.loop-i-test.true, c.len-i-end.ensures)) c.at-m.ensures))
