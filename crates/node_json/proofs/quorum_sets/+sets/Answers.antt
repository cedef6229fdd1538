use Rattle.std.proofs.Common.{◌≡◌, ◌<◌, inl, inr, refl, sym, ap, ◌∙◌, arith, rules, Ok, Err, length, get_or}
use Rattle.std.proofs.lemmas.Result.{err_from_is_err_and}
use Rattle.node_json.specs.Reading.{set_of}
use Rattle.node_json.proofs.SetReading.{set_of-shape, set_of-threshold, set_of-validators, set_of-inner, set_view-made, sets_loop, sets_fault, sets_end}
use Rattle.node_json.specs.Named.{named_set}
use Rattle.node_json.specs.NamesInOrder.{with_names}
use Rattle.node_json.proofs.Gathering.{sets_gathered, set_gathered}
use Rattle.node_json.specs.View.{names_view, set_view, sets_view}
use Rattle.node_json.specs.declared.quorum_sets.NamedSet.TheViews.{roll-NamedSet}
use Rattle.node_json.proofs.quorum_sets.+sets.Goals as goal

pub read_set-returns-then-levels-eq0-clause-err : goal.read_set-returns-then-levels-eq0-clause-err
unfolding set_of
read_set-returns-then-levels-eq0-clause-err t c = inr (rw c.if-levels-eq0.true refl)

pub read_set-returns-then-not-is_object-clause-err : goal.read_set-returns-then-not-is_object-clause-err
read_set-returns-then-not-is_object-clause-err t c = inr (set_of-shape c.args.at c.args.levels _ (omega arith) (search rules))

pub read_set-returns-in_default-clause-err : goal.read_set-returns-in_default-clause-err
read_set-returns-in_default-clause-err t c = inr (set_of-threshold c.args.at c.args.levels _ (omega arith) (search rules) (search rules))

pub read_set-returns-in_default-2-clause-err : goal.read_set-returns-in_default-2-clause-err
read_set-returns-in_default-2-clause-err t c = inr (set_of-validators c.args.at c.args.levels _ c.in-Some.threshold (omega arith) (search rules) (search rules) (search rules))

pub read_set-returns-in_err-inner-clause-err : goal.read_set-returns-in_err-inner-clause-err
read_set-returns-in_err-inner-clause-err t c =
    let p = err_from_is_err_and c.from_residual-in_err-inner.result c.from_residual-in_err-inner.ensures.1 in
    let r : c.from_residual-in_err-inner.result ≡ Err c.in_err-inner.field-0.0 = search rules in
    rw r (elim c.in_err-inner.ensures.err [
      | inl m ↦ inl m
      | inr f ↦ inr (set_of-inner c.args.at c.args.levels _ c.in-Some.threshold (names_view c.in-Some-2.validators.items) _ (omega arith) (search rules) (search rules) (search rules) f)
    ])

pub read_set-returns-clause-ok : goal.read_set-returns-clause-ok
read_set-returns-clause-ok t c =
    let seen : set_view (roll-NamedSet (record { threshold = c.in-Some.threshold; validators = c.in-Some-2.validators; inner = c.in_ok-inner.inner })) ≡ named_set c.in-Some.threshold (names_view c.in-Some-2.validators.items) (sets_view c.in_ok-inner.inner.items) = set_view-made _ _ _ in
    set_of-inner c.args.at c.args.levels _ c.in-Some.threshold (names_view c.in-Some-2.validators.items) _ (omega arith) (search rules) (search rules) (search rules) c.in_ok-inner.ensures.ok ∙ ap Ok (sym seen)

pub read_set-returns-clause-gathered : goal.read_set-returns-clause-gathered
read_set-returns-clause-gathered t c =
    let seen : set_view (roll-NamedSet (record { threshold = c.in-Some.threshold; validators = c.in-Some-2.validators; inner = c.in_ok-inner.inner })) ≡ named_set c.in-Some.threshold (names_view c.in-Some-2.validators.items) (sets_view c.in_ok-inner.inner.items) = set_view-made _ _ _ in
    set_gathered _ c.add_all.new.names _ c.in-Some.threshold (names_view c.in-Some-2.validators.items) (sets_view c.in_ok-inner.inner.items) _ seen
    (c.in_ok-add_all.ensures ∙ ap (λ vs. with_names c.args.names.now (names_view vs)) c.deref.ensures.value) c.in_ok-inner.ensures.gathered

pub read_sets-loop-item-preserved : goal.read_sets-loop-item-preserved
read_sets-loop-item-preserved t c =
    let xs = c.args.items.now.items in
    let i = c.loop-item.item-index in
    let v = c.item-item.result in
    let is : v ≡ get_or xs i v = cc in
    let inside : i < length xs = omega (arith, c.deref-item-items.ensures.len) in (
      sets_loop (set_of c.args.at c.args.levels) _ c.loop-item.sets.items _ c.in_ok-read_set.field-0 xs i v inside is c.in_ok-read_set.ensures.ok c.in_ok-push.ensures.items c.loop-item.invariant.0,
      sets_gathered _ c.loop-item.names c.read_set.new.names c.loop-item.sets.items _ c.in_ok-read_set.field-0 c.in_ok-push.ensures.items c.in_ok-read_set.ensures.gathered c.loop-item.invariant.1,
    )

pub read_sets-returns-clause-ok : goal.read_sets-returns-clause-ok
read_sets-returns-clause-ok t c =
    sets_end (set_of c.args.at c.args.levels) _ c.loop-item.sets.items c.args.items.now.items c.loop-item.item-index (omega (arith, c.deref-item-items.ensures.len)) c.loop-item.invariant.0

pub read_sets-returns-in_err-read_set-clause-err : goal.read_sets-returns-in_err-read_set-clause-err
read_sets-returns-in_err-read_set-clause-err t c =
    let xs = c.args.items.now.items in
    let i = c.loop-item.item-index in
    let v = c.item-item.result in
    let is : v ≡ get_or xs i v = cc in
    let inside : i < length xs = omega (arith, c.deref-item-items.ensures.len) in
    let r : c.from_residual-in_err-read_set.result ≡ Err c.in_err-read_set.field-0.0 = search rules in
    rw r (elim c.in_err-read_set.ensures.err [
      | inl m ↦ inl m
      | inr f ↦ inr (sets_fault (set_of c.args.at c.args.levels) _ c.loop-item.sets.items xs i v _ inside is f c.loop-item.invariant.0)
    ])
