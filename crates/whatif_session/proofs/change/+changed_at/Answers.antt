use Rattle.std.proofs.Common.{rules, ◌≡◌, ◌==◌, ◌∷◌, cond, Bool, true, false, sym, ap, ap₂, ◌∙◌, take_all, arith}
use Rattle.std.proofs.lemmas.Bool.{eq-eqb, false_from_ne_true, eqb-true}
use Rattle.fbas_model.specs.Trees.{quorum_set}
use Rattle.fbas_model.specs.Lists.{entries_of}
use Rattle.quorum_set.proofs.Inner.{inner_at}
use Rattle.whatif_session.specs.Changes.{changed_item, changed_at}
use Rattle.whatif_session.proofs.ChangeLists.{item_step, inner-lists}
use Rattle.whatif_session.proofs.change.+changed_at.Goals as goal
use Rattle.whatif_session.proofs.change.+changed_at.Goals.{then-at-place+in_ok-changed_at, else-at-place+in_ok-copied}

pub changed_at-requires : goal.changed_at-requires
changed_at-requires t c = rw (← c.decreases) (omega (arith, (inner_at c.set.inside.threshold c.set.inside.validators.items c.set.inside.inner.items c.args.set.now c.set.view_is c.deref-one-items.result.now c.loop-at.at c.one-item.result c.deref-one-items.ensures.value c.loop-at-test.true c.one-item.is).lighter))

pub loop-at-preserved : goal.loop-at-preserved
loop-at-preserved t c =
    let i = c.in-Some.place.now in
    let at = c.loop-at.at in
    let change = changed_at c.in-Some.rest.now c.args.change in
    let qs = c.deref-one-items.result.now in
    let q = c.one-item.result in
    let before = c.loop-at.inner.items in
    elim c.if-at-place.branch [
      | then-at-place+in_ok-changed_at w ↦
          let yes : (at == i) ≡ true = eq-eqb at i w.if-at-place.true in
          let is : c.if-at-place.push ≡ cond (at == i) (change q) q = w.push-is ∙ w.in_ok-changed_at.ensures ∙ sym (ap (λ (b : Bool). cond b (change q) q) yes) in
          c.in_ok-push.ensures.items ∙ item_step i at change qs before q c.if-at-place.push c.loop-at-test.true c.one-item.is c.loop-at.invariant is
      | else-at-place+in_ok-copied w ↦
          let no : (at == i) ≡ false = false_from_ne_true (at == i) (λ e. absurd (w.if-at-place.false (eqb-true at i e))) in
          let is : c.if-at-place.push ≡ cond (at == i) (change q) q = w.push-is ∙ w.in_ok-copied.ensures ∙ sym (ap (λ (b : Bool). cond b (change q) q) no) in
          c.in_ok-push.ensures.items ∙ item_step i at change qs before q c.if-at-place.push c.loop-at-test.true c.one-item.is c.loop-at.invariant is
    ]

pub returns : goal.returns
returns t c =
    let ws = c.set.inside.validators.items in
    let qs = c.set.inside.inner.items in
    let i = c.in-Some.place.now in
    let change = changed_at c.in-Some.rest.now c.args.change in
    let all = take_all c.loop-at.at c.deref-one-items.result.now c.loop-at-test.false ∙ c.deref-one-items.ensures.value in
    let inners : c.loop-at.inner.items ≡ changed_item i change qs = c.loop-at.invariant ∙ ap (changed_item i change) all in
    let path_is : c.args.path.now ≡ i ∷ c.in-Some.rest.now = search (rules, c.in-Some.ensures) in
    rw (← c.set.view_is, path_is) (ap (quorum_set c.set.inside.threshold) (ap₂ entries_of (c.in_ok-validators.ensures.items ∙ c.deref.ensures.value) inners ∙ sym (inner-lists i change ws qs)))
