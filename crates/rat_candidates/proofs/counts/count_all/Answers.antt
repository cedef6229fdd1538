use Rattle.std.proofs.Common.{◌<◌, [], ◌∷◌, ◌++◌, refl, arith}
use Rattle.rat_candidates.specs.Occurrences.{occurrences_in}
use Rattle.rat_candidates.proofs.CountingLaws.{in-none, none_yet, up_to_next, next_over, all_over}
use Rattle.rat_candidates.proofs.counts.count_all.Goals as goal

pub loop-above-init : goal.loop-above-init
loop-above-init c = ([], none_yet c.args.store.now.held c.last-last.ensures.none_at_zero, λ k small. omega (arith, in-none k c.args.store.now.held))

pub returns-in_default : goal.returns-in_default
returns-in_default c = λ k.
    let so = c.loop-above.invariant in
    all_over c.args.store.now.held c.loop-above.above so.0 c.last-last.ensures.rising so.1 (c.in_default.ensures.none refl) c.loop-above.counts.items k (so.2 k)

pub loop-above-preserved : goal.loop-above-preserved
loop-above-preserved c =
    let so = c.loop-above.invariant in
    let held = c.args.store.now.held in
    let next = c.in-Some.next in
    let clause = c.in-Some.clause.now in (
      so.0 ++ next ∷ [],
      up_to_next held c.loop-above.above next clause so.0 c.in-Some.ensures.some so.1,
      λ k. next_over held c.loop-above.above next clause so.0 c.in-Some.ensures.some so.1 c.count_more.new.counts.items k c.last-last.ensures.rising (c.count_more.ensures k (occurrences_in k so.0 held) (so.2 k)),
    )

pub returns : goal.returns
returns c = λ k.
    let so = c.loop-above.invariant in
    all_over c.args.store.now.held c.loop-above.above so.0 c.last-last.ensures.rising so.1
    (λ j high. (let past : c.args.store.now.last < j = omega (arith, high, c.loop-above-test.false, c.last-last.ensures.value) in c.last-last.ensures.none_above j past)) c.loop-above.counts.items k (so.2 k)
