use Rattle.std.proofs.Common.{length, arith}
use Rattle.fbas_model.specs.Nodes.{members, outside}
use Rattle.quorum_set.proofs.Counting.{count_more, answer_iff}
use Rattle.quorum_set.proofs.Inner.{own_below, inner_at}
use Rattle.quorum_set.proofs.QuorumSet.+avoids.Goals as goal

pub count_outside-avoiding-requires :
    goal.count_outside-avoiding-requires
count_outside-avoiding-requires t c = own_below c.self.inside.threshold c.self.inside.validators.items c.self.inside.inner.items c.args.self.now c.self.view_is (length c.args.s.now) _ c.deref.ensures.value c.requires

pub avoids-requires : goal.avoids-requires
avoids-requires t c =
    let inner = inner_at c.self.inside.threshold c.self.inside.validators.items c.self.inside.inner.items c.args.self.now c.self.view_is c.deref-inner-items.result.now c.loop-inner.inner-index c.inner-item.result c.deref-inner-items.ensures.value c.loop-inner-test.true c.inner-item.is in
    (rw (← c.decreases) (omega (arith, inner.lighter)), inner.below (length c.args.s.now) c.requires)

pub loop-inner-preserved : goal.loop-inner-preserved
loop-inner-preserved t c = omega (arith, count_more (outside (members c.args.s.now)) c.deref-inner-items.result.now c.loop-inner.inner-index c.inner-item.result c.avoids.result c.loop-inner-test.true c.inner-item.is c.avoids.ensures)

pub returns-then-self-ge1 : goal.returns-then-self-ge1
returns-then-self-ge1 t c = answer_iff (outside (members c.args.s.now)) c.self.inside.threshold c.self.inside.validators.items c.self.inside.inner.items c.args.self.now c.self.view_is c.deref-inner-items.result.now c.loop-inner.inner-index c.loop-inner.avoiding c.deref-inner-items.ensures.value c.loop-inner-test.false c.if-self-ge1.true c.loop-inner.invariant
