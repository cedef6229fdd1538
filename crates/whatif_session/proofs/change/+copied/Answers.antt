use Rattle.std.proofs.Common.{◌≡◌, ap, ap₂, ◌∙◌, take_all, arith}
use Rattle.fbas_model.specs.Trees.{quorum_set}
use Rattle.fbas_model.specs.Lists.{entries_of}
use Rattle.quorum_set.proofs.Inner.{inner_at}
use Rattle.whatif_session.proofs.change.+copied.Goals as goal

pub copied-requires : goal.copied-requires
copied-requires t c = rw (← c.decreases) (omega (arith, (inner_at c.set.inside.threshold c.set.inside.validators.items c.set.inside.inner.items c.args.set.now c.set.view_is c.deref-one-items.result.now c.loop-one.one-index c.one-item.result c.deref-one-items.ensures.value c.loop-one-test.true c.one-item.is).lighter))

pub returns : goal.returns
returns t c =
    let ws = c.set.inside.validators.items in
    let qs = c.set.inside.inner.items in
    let all = take_all c.loop-one.one-index c.deref-one-items.result.now c.loop-one-test.false ∙ c.deref-one-items.ensures.value in
    let inners : c.loop-one.inner.items ≡ qs = c.loop-one.invariant ∙ all in
    rw (← c.set.view_is) (ap (quorum_set c.set.inside.threshold) (ap₂ entries_of (c.in_ok-validators.ensures.items ∙ c.deref.ensures.value) inners))
