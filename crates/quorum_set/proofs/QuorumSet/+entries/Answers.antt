use Rattle.std.proofs.Common.{arith, ◌∙◌, take_all}
use Rattle.quorum_set.proofs.Entries.{entries_more, entries-lists}
use Rattle.quorum_set.proofs.Inner.{inner_at}
use Rattle.quorum_set.proofs.QuorumSet.+entries.Goals as goal

pub entries-requires : goal.entries-requires
entries-requires t c =
    let inner = inner_at c.self.inside.threshold c.self.inside.validators.items c.self.inside.inner.items c.args.self.now c.self.view_is c.deref-inner-items.result.now c.loop-inner.inner-index c.inner-item.result c.deref-inner-items.ensures.value c.loop-inner-test.true c.inner-item.is in
    (rw (← c.decreases) (omega (arith, inner.lighter)), omega (arith, inner.entries, c.requires))

pub overflow_add-entries : goal.overflow_add-entries
overflow_add-entries t c =
    let inner = inner_at c.self.inside.threshold c.self.inside.validators.items c.self.inside.inner.items c.args.self.now c.self.view_is c.deref-inner-items.result.now c.loop-inner.inner-index c.inner-item.result c.deref-inner-items.ensures.value c.loop-inner-test.true c.inner-item.is in
    omega (arith, inner.entries, c.loop-inner.invariant, c.requires)

pub overflow_add-entries-in-loop-inner : goal.overflow_add-entries-in-loop-inner
overflow_add-entries-in-loop-inner t c =
    let inner = inner_at c.self.inside.threshold c.self.inside.validators.items c.self.inside.inner.items c.args.self.now c.self.view_is c.deref-inner-items.result.now c.loop-inner.inner-index c.inner-item.result c.deref-inner-items.ensures.value c.loop-inner-test.true c.inner-item.is in
    omega (arith, inner.entries, c.loop-inner.invariant, c.requires)

pub loop-inner-preserved : goal.loop-inner-preserved
loop-inner-preserved t c =
    let more = entries_more c.deref-inner-items.result.now c.loop-inner.inner-index c.inner-item.result c.loop-inner-test.true c.inner-item.is in
    omega (arith, more)

pub returns : goal.returns
returns t c =
    let ws = c.self.inside.validators.items in
    let qs = c.self.inside.inner.items in
    let all = take_all c.loop-inner.inner-index c.deref-inner-items.result.now c.loop-inner-test.false ∙ c.deref-inner-items.ensures.value in
    let sum = rw all at c.loop-inner.invariant in
    rw (← c.self.view_is) (omega (arith, entries-lists ws qs, sum))
