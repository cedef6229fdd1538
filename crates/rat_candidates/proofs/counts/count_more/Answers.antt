use Rattle.std.proofs.Common.{◌≡◌, ◌+◌, [], ◌∷◌, take, subst, arith}
use Rattle.std.proofs.lemmas.List.{take_all}
use Rattle.rat_candidates.specs.Occurrences.{times}
use Rattle.rat_candidates.specs.Counted.{IsOver}
use Rattle.rat_candidates.proofs.CountLaws.{times-taken}
use Rattle.rat_candidates.proofs.counts.count_more.Goals as goal

pub loop-l-preserved : goal.loop-l-preserved
loop-l-preserved c = λ k n start.
    let m = c.l-item.result in
    let i = c.loop-l.l-index in
    let clause = c.args.clause.now in
    let more : n + times k (take i clause) + times k (m ∷ []) ≡ n + times k (take (i + 1) clause) = omega (arith, times-taken k clause i m c.loop-l-test.true c.l-item.is) in
    subst (IsOver c.one_more.new.counts.items k) more (c.one_more.ensures k (n + times k (take i clause)) (c.loop-l.invariant k n start))

pub returns : goal.returns
returns c = λ k n start. subst (λ ls. IsOver c.loop-l.counts.items k (n + times k ls)) (take_all c.loop-l.l-index c.args.clause.now c.loop-l-test.false) (c.loop-l.invariant k n start)
