use Rattle.std.proofs.Common.{◌≡◌, ℕ, ◌+◌, ◌<◌, ◌++◌, List, ◌∙◌, ap, refl, length, subst, arith}
use Rattle.std.proofs.lemmas.Result.{err_from_is_err_and}
use Rattle.quorum_set.specs.Findings.{found_all, findings_at, HoldsFirst}
use Rattle.quorum_set.proofs.Places.{inner_sets-lists}
use Rattle.quorum_set.proofs.Inner.{inner_at}
use Rattle.quorum_set.proofs.FindingLaws.{holds_first, holds_lists, holds_lists_part, inner_added, inner_part, pushed, popped}
use Rattle.quorum_set.proofs.QuorumSet.+find_at.Goals as goal

pub returns-in_err-find_repeated-clause-err : goal.returns-in_err-find_repeated-clause-err
returns-in_err-find_repeated-clause-err t c =
    let q = c.self.inside in
    let sum : c.len.result + c.len-2.result ≡ length q.validators.items + length q.inner.items = omega (arith, c.len.ensures, c.len-2.ensures, q.validators.ok.0, q.inner.ok.0) in
    let p = err_from_is_err_and c.from_residual-in_err-find_repeated.result c.from_residual-in_err-find_repeated.ensures.1 in
    rw (p.1, ← c.self.view_is) (holds_lists_part (found_all c.args.into.now.items) (found_all c.find_threshold.new.into.items) c.args.path.now.items q.threshold (c.len.result + c.len-2.result) q.validators.items q.inner.items sum (rw c.deref.ensures.value at c.in_ok-find_threshold.ensures.ok) (found_all c.find_repeated.new.into.items) (rw (c.deref-2.ensures.value, c.deref-3.ensures.value) at c.in_err-find_repeated.ensures.err))

pub loop-at-init : goal.loop-at-init
loop-at-init t c =
    let q = c.self.inside in
    let sum : c.len.result + c.len-2.result ≡ length q.validators.items + length q.inner.items = omega (arith, c.len.ensures, c.len-2.ensures, q.validators.ok.0, q.inner.ok.0) in
    record {
      path = refl;
      told = rw (c.deref-inner-items.ensures.value, ← c.self.view_is) (holds_lists (found_all c.args.into.now.items) (found_all c.find_threshold.new.into.items) c.args.path.now.items q.threshold (c.len.result + c.len-2.result) q.validators.items q.inner.items sum (rw c.deref.ensures.value at c.in_ok-find_threshold.ensures.ok) (found_all c.find_repeated.new.into.items) (rw (c.deref-2.ensures.value, c.deref-3.ensures.value) at c.in_ok-find_repeated.ensures.ok));
    }

pub overflow_cast-at : goal.overflow_cast-at
overflow_cast-at t c =
    let ws = c.self.inside.validators.items in
    let qs = c.self.inside.inner.items in
    let in_range : c.loop-at.at < length qs = rw (← c.deref-inner-items.ensures.value) c.loop-at-test.true in
    let bound = (rw (← c.self.view_is) at c.requires).0 in
    omega (arith, inner_sets-lists ws qs, bound)

pub returns-in_err-push-clause-err : goal.returns-in_err-push-clause-err
returns-in_err-push-clause-err t c =
    let p = err_from_is_err_and c.from_residual-in_err-push.result c.from_residual-in_err-push.ensures.1 in
    rw p.1 (holds_first _ _ _ _ c.loop-at.invariant.told)

pub find_at-requires : goal.find_at-requires
find_at-requires t c =
    let inner = inner_at c.self.inside.threshold c.self.inside.validators.items c.self.inside.inner.items c.args.self.now c.self.view_is c.deref-inner-items.result.now c.loop-at.at c.inner-item.result c.deref-inner-items.ensures.value c.loop-at-test.true c.inner-item.is in
    (rw (← c.decreases) (omega (arith, inner.lighter)), inner.places c.requires)

pub returns-in_err-find_at-clause-err : goal.returns-in_err-find_at-clause-err
returns-in_err-find_at-clause-err t c =
    let path = c.args.path.now.items in
    let at = c.loop-at.at in
    let q = c.inner-item.result in
    let longer = pushed path c.loop-at.path.items c.push.new.self.items at c.loop-at.invariant.path c.in_ok-push.ensures.items in
    let now = found_all c.loop-at.into.items in
    let next = found_all c.find_at.new.into.items in
    let p = err_from_is_err_and c.from_residual-in_err-find_at.result c.from_residual-in_err-find_at.ensures.1 in
    rw p.1 (inner_part (found_all c.args.into.now.items) (findings_at path c.args.self.now) now next path c.deref-inner-items.result.now at q c.loop-at-test.true c.inner-item.is c.loop-at.invariant.told (subst (λ (l : List ℕ). HoldsFirst now (findings_at l q) next) longer c.in_err-find_at.ensures.err))

pub loop-at-preserved : goal.loop-at-preserved
loop-at-preserved t c =
    let path = c.args.path.now.items in
    let at = c.loop-at.at in
    let q = c.inner-item.result in
    let longer = pushed path c.loop-at.path.items c.push.new.self.items at c.loop-at.invariant.path c.in_ok-push.ensures.items in
    let now = found_all c.loop-at.into.items in
    record {
      path = popped path c.find_at.new.path.items at c.find_at.new.path.len c.pop.new.self.items c.find_at.new.path.ok.0 (c.in_ok-find_at.ensures.path ∙ longer) c.pop.ensures.rest;
      told = inner_added (found_all c.args.into.now.items) (findings_at path c.args.self.now) now (found_all c.find_at.new.into.items) path c.deref-inner-items.result.now at q c.loop-at-test.true c.inner-item.is c.loop-at.invariant.told (c.in_ok-find_at.ensures.ok ∙ ap (λ (l : List ℕ). now ++ findings_at l q) longer);
    }
