use Rattle.std.proofs.Common.{◌≡◌, ◌+◌, ◌-◌, take, get_or, refl, subst, arith}
use Rattle.std.proofs.lemmas.List.{take_all}
use Rattle.lrat_model.specs.Clauses.{clause_at}
use Rattle.rat_candidates.specs.Counted.{IsOver, times_found, listed}
use Rattle.rat_candidates.proofs.CountLaws.{listed-more}
use Rattle.rat_candidates.proofs.counts.ids_less.Goals as goal

pub loop-id-preserved : goal.loop-id-preserved
loop-id-preserved c = λ k n start.
    let held = c.args.store.now.held in
    let ids = c.args.ids.now in
    let i = c.loop-id.id-index in
    let id = get_or ids i 0 in
    let next : n - listed k held (take i ids) - times_found k (clause_at held id) ≡ n - listed k held (take (i + 1) ids) = omega (arith, listed-more k held ids i 0 id c.loop-id-test.true refl) in
    subst (λ x. IsOver c.id_less.new.counts.items k x) next (c.id_less.ensures k (n - listed k held (take i ids)) (c.loop-id.invariant k n start))

pub returns : goal.returns
returns c = λ k n start. subst (λ xs. IsOver c.loop-id.counts.items k (n - listed k c.args.store.now.held xs)) (take_all c.loop-id.id-index c.args.ids.now c.loop-id-test.false) (c.loop-id.invariant k n start)
