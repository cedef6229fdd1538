use Rattle.std.proofs.Common.{length, ◌≡◌, map, sym, ap, subst, List, ◌∙◌, take_all, rules, arith}
use Rattle.std.specs.Prelude.{All}
use Rattle.serde_json.specs.Data.{array}
use Rattle.serde_json.specs.View.{view, items_of, items_view}
use Rattle.serde_json.specs.declared.value.Value.{the_lemmas}
use Rattle.serde_json.specs.declared.value.Value.TheVariants.{Array}
use Rattle.fbas_model.specs.Trees.{QuorumSet}
use Rattle.quorum_set.proofs.Inner.{own_below, inner_at}
use Rattle.config_text.specs.Written.{name_of, strings, set_with, IsListed}
use Rattle.config_text.proofs.Trees.{tree_of_set, tree-lists, listed-lists, sets_more, listed_more}
use Rattle.config_text.proofs.tree.+set_tree.Goals as goal

pub names_tree-requires-clause-below : goal.names_tree-requires-clause-below
names_tree-requires-clause-below t c = own_below c.set.inside.threshold c.set.inside.validators.items c.set.inside.inner.items c.args.set.now c.set.view_is (length c.args.names.now) _ c.deref.ensures.value c.requires.below

pub set_tree-requires : goal.set_tree-requires
set_tree-requires t c =
    let inner = inner_at c.set.inside.threshold c.set.inside.validators.items c.set.inside.inner.items c.args.set.now c.set.view_is c.deref-one-items.result.now c.loop-one.one-index c.one-item.result c.deref-one-items.ensures.value c.loop-one-test.true c.one-item.is in
    (rw (← c.decreases) (omega (arith, inner.lighter)), (inner.below (length c.args.names.now) c.requires.below, c.requires.keys))

pub loop-one-preserved : goal.loop-one-preserved
loop-one-preserved t c =
    let names = c.args.names.now in
    let qs = c.deref-one-items.result.now in
    let i = c.loop-one.one-index in
    let q = c.one-item.result in
    let made = c.in_ok-set_tree.ensures in (
      rw c.in_ok-push.ensures.items (sets_more names qs i q c.loop-one-test.true c.one-item.is c.loop-one.inner.items c.in_ok-set_tree.field-0 made.0 c.loop-one.invariant.0),
      listed_more names qs i q c.loop-one-test.true c.one-item.is c.loop-one.invariant.1 made.1,
    )

pub returns : goal.returns
returns t c =
    let names = c.args.names.now in
    let ws = c.set.inside.validators.items in
    let qs = c.set.inside.inner.items in
    let all = take_all c.loop-one.one-index c.deref-one-items.result.now c.loop-one-test.false ∙ c.deref-one-items.ensures.value in
    let validators : view c.in_ok-validators.validators ≡ array (strings (map (name_of names) ws)) = c.in_ok-validators.ensures ∙ ap (λ (vs : List _). array (strings (map (name_of names) vs))) c.deref.ensures.value in
    let gathered : view (Array c.loop-one.inner) ≡ array (items_view c.loop-one.inner.items) = search (rules, the_lemmas) in
    let inners : view (Array c.loop-one.inner) ≡ array (items_of (map (tree_of_set names) qs)) = gathered ∙ ap array (ap items_of (c.loop-one.invariant.0 ∙ ap (map (tree_of_set names)) all)) in
    let made : view c.in_ok-tree.tree ≡ set_with c.set.inside.threshold (view c.in_ok-validators.validators) (view (Array c.loop-one.inner)) = c.in_ok-tree.ensures in
    rw (← c.set.view_is) (
      made ∙ sym (tree-lists names c.set.inside.threshold ws qs (view c.in_ok-validators.validators) (view (Array c.loop-one.inner)) validators inners),
      listed-lists ws qs (subst (λ (xs : List QuorumSet). All IsListed xs) all c.loop-one.invariant.1),
    )
