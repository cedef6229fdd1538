use Rattle.std.proofs.Common.{length, ◌≡◌, map, refl, sym, ap, ap₂, ◌∙◌, take_all, arith}
use Rattle.std.specs.Prelude.{slice_index}
use Rattle.fbas_model.specs.Trees.{quorum_set}
use Rattle.fbas_model.specs.Restriction.{renumbered}
use Rattle.fbas_model.specs.Lists.{entries_of}
use Rattle.quorum_set.proofs.Inner.{own_below, inner_at}
use Rattle.fbas_core.proofs.Entries.{renumbered-lists}
use Rattle.fbas_core.proofs.restriction.+renumber.Goals as goal

pub renumber_nodes-requires : goal.renumber_nodes-requires
renumber_nodes-requires t c = own_below c.quorum_set.inside.threshold c.quorum_set.inside.validators.items c.quorum_set.inside.inner.items c.args.quorum_set.now c.quorum_set.view_is (length c.args.ranks.now) _ c.deref.ensures.value c.requires

pub renumber-requires : goal.renumber-requires
renumber-requires t c =
    let inner = inner_at c.quorum_set.inside.threshold c.quorum_set.inside.validators.items c.quorum_set.inside.inner.items c.args.quorum_set.now c.quorum_set.view_is c.deref-one-items.result.now c.loop-one.one-index c.one-item.result c.deref-one-items.ensures.value c.loop-one-test.true c.one-item.is in
    (rw (← c.decreases) (omega (arith, inner.lighter)), inner.below (length c.args.ranks.now) c.requires)

pub returns : goal.returns
returns s c t are =
    let ws = c.quorum_set.inside.validators.items in
    let qs = c.quorum_set.inside.inner.items in
    let all = take_all c.loop-one.one-index c.deref-one-items.result.now c.loop-one-test.false ∙ c.deref-one-items.ensures.value in
    let nodes : c.in_ok-validators.validators.items ≡ map (slice_index c.args.ranks.now) ws = c.in_ok-validators.ensures ∙ ap (map (slice_index c.args.ranks.now)) c.deref.ensures.value in
    let inners : c.loop-one.inner.items ≡ map (renumbered t) qs = c.loop-one.invariant t are ∙ ap (map (renumbered t)) all in
    let below = own_below c.quorum_set.inside.threshold c.quorum_set.inside.validators.items c.quorum_set.inside.inner.items c.args.quorum_set.now c.quorum_set.view_is (length c.args.ranks.now) ws refl c.requires in
    rw (← c.quorum_set.view_is) (ap (quorum_set c.quorum_set.inside.threshold) (ap₂ entries_of nodes inners ∙ sym (renumbered-lists t c.args.ranks.now ws qs are below)))
