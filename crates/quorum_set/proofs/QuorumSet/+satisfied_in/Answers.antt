use Rattle.std.proofs.Common.{length, arith}
use Rattle.fbas_model.specs.Nodes.{members, ◌∪◌}
use Rattle.quorum_set.proofs.Counting.{count_more, answer_iff}
use Rattle.quorum_set.proofs.Inner.{own_below, inner_at}
use Rattle.quorum_set.proofs.QuorumSet.+satisfied_in.Goals as goal

pub count_in_either-satisfied-requires-clause-below :
    goal.count_in_either-satisfied-requires-clause-below
count_in_either-satisfied-requires-clause-below t c = own_below c.self.inside.threshold c.self.inside.validators.items c.self.inside.inner.items c.args.self.now c.self.view_is (length c.args.u.now) _ c.deref.ensures.value c.requires.below

pub satisfied_in-requires : goal.satisfied_in-requires
satisfied_in-requires t c =
    let inner = inner_at c.self.inside.threshold c.self.inside.validators.items c.self.inside.inner.items c.args.self.now c.self.view_is c.deref-inner-items.result.now c.loop-inner.inner-index c.inner-item.result c.deref-inner-items.ensures.value c.loop-inner-test.true c.inner-item.is in
    (rw (← c.decreases) (omega (arith, inner.lighter)), (c.requires.same_n, inner.below (length c.args.u.now) c.requires.below))

pub loop-inner-preserved : goal.loop-inner-preserved
loop-inner-preserved t c = omega (arith, count_more (members c.args.u.now ∪ members c.args.faulty.now) c.deref-inner-items.result.now c.loop-inner.inner-index c.inner-item.result c.satisfied_in.result c.loop-inner-test.true c.inner-item.is c.satisfied_in.ensures)

pub returns-then-self-ge1 : goal.returns-then-self-ge1
returns-then-self-ge1 t c = answer_iff (members c.args.u.now ∪ members c.args.faulty.now) c.self.inside.threshold c.self.inside.validators.items c.self.inside.inner.items c.args.self.now c.self.view_is c.deref-inner-items.result.now c.loop-inner.inner-index c.loop-inner.satisfied c.deref-inner-items.ensures.value c.loop-inner-test.false c.if-self-ge1.true c.loop-inner.invariant
