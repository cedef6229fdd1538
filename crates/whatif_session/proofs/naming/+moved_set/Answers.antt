use Rattle.std.proofs.Common.{◌≡◌, map, sym, ap, ap₂, ◌∙◌, take_all, arith}
use Rattle.fbas_model.specs.declared.TheConstants.{MOST_NODES}
use Rattle.fbas_model.specs.Trees.{quorum_set}
use Rattle.fbas_model.specs.Lists.{entries_of}
use Rattle.quorum_set.proofs.Inner.{own_below, inner_at}
use Rattle.whatif_session.specs.Names.{number_after, moved_up}
use Rattle.whatif_session.proofs.NewNames.{moved-lists}
use Rattle.whatif_session.proofs.naming.+moved_set.Goals as goal

pub moved_nodes-requires : goal.moved_nodes-requires
moved_nodes-requires t c = own_below c.set.inside.threshold c.set.inside.validators.items c.set.inside.inner.items c.args.set.now c.set.view_is MOST_NODES _ c.deref.ensures.value c.requires

pub moved_set-requires : goal.moved_set-requires
moved_set-requires t c =
    let inner = inner_at c.set.inside.threshold c.set.inside.validators.items c.set.inside.inner.items c.args.set.now c.set.view_is c.deref-one-items.result.now c.loop-one.one-index c.one-item.result c.deref-one-items.ensures.value c.loop-one-test.true c.one-item.is in
    (rw (← c.decreases) (omega (arith, inner.lighter)), inner.below MOST_NODES c.requires)

pub returns : goal.returns
returns t c =
    let ws = c.set.inside.validators.items in
    let qs = c.set.inside.inner.items in
    let all = take_all c.loop-one.one-index c.deref-one-items.result.now c.loop-one-test.false ∙ c.deref-one-items.ensures.value in
    let nodes : c.in_ok-validators.validators.items ≡ map (number_after c.args.place) ws = c.in_ok-validators.ensures ∙ ap (map (number_after c.args.place)) c.deref.ensures.value in
    let inners : c.loop-one.inner.items ≡ map (moved_up c.args.place) qs = c.loop-one.invariant ∙ ap (map (moved_up c.args.place)) all in
    rw (← c.set.view_is) (ap (quorum_set c.set.inside.threshold) (ap₂ entries_of nodes inners ∙ sym (moved-lists c.args.place ws qs)))
