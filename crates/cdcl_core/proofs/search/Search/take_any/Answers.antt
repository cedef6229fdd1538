use Rattle.std.proofs.Common.{sym, ap, subst, arith, length}
use Rattle.cdcl_core.specs.declared.search.Search.{Search}
use Rattle.cdcl_core.specs.Fixpoint.{IsFixpoint}
use Rattle.cdcl_core.proofs.Counted.{quiet_fixpoint}
use Rattle.cdcl_core.proofs.search.Search.take_any.Goals as goal

pub returns-clause-nothing : goal.returns-clause-nothing
returns-clause-nothing c = λ _.
    let s = c.args.self.now in
    let inv = c.loop-place.invariant in
    let all = ap (λ (x : Search). length x.clauses) inv.unchanged in
    (inv.unchanged, subst (λ (x : Search). IsFixpoint x.clauses x.assignment.trues) (sym inv.unchanged) (quiet_fixpoint s.clauses s.assignment.trues (λ p less. inv.quiet p (omega (arith, less, all, c.loop-place-test.false, c.len.ensures)))))
