use Rattle.std.proofs.Common.{◌≡◌, ◌<◌, true, false, sym, refl, ◌∙◌, arith}
use Rattle.lrat_model.specs.Clauses.{has_id}
use Rattle.rat_candidates.specs.Groups.{ids_in}
use Rattle.rat_candidates.proofs.NamedLaws.{names-ids}
use Rattle.rat_candidates.proofs.MissingLaws.{misses, misses_from, none_left, first_missing, missing_before, missing_through}
use Rattle.rat_candidates.proofs.scan.scan.Goals.{else-has-via-then-has+else-not-has_group, else-has-via-else-has}
use Rattle.rat_candidates.proofs.scan.scan.Goals as goal

pub returns-then-not-has_group : goal.returns-then-not-has_group
returns-then-not-has_group c =
    let held = c.args.store.now.held in
    let ids = ids_in c.args.hints.now in
    let next = c.in-Some.next in
    let clause = c.in-Some.clause.now in
    let l = c.args.l in
    let is : misses l ids next clause ≡ true = misses_from l ids next clause true false (sym c.has.ensures ∙ c.if-has.true) (sym (names-ids c.args.hints.now next) ∙ sym c.has_group.ensures ∙ c.if-not-has_group.true) in
    sym (first_missing l ids held c.last-last.ensures.rising next clause c.in-Some.ensures.some.there is (missing_before l ids held c.loop-above.above next clause c.in-Some.ensures.some c.loop-above.invariant))

pub loop-above-preserved : goal.loop-above-preserved
loop-above-preserved c =
    let held = c.args.store.now.held in
    let ids = ids_in c.args.hints.now in
    let next = c.in-Some.next in
    let clause = c.in-Some.clause.now in
    let l = c.args.l in
    let none : misses l ids next clause ≡ false =
    elim c.else-has.branch [
      | else-has-via-then-has+else-not-has_group w ↦ misses_from l ids next clause true true (sym c.has.ensures ∙ w.if-has.true) (sym (names-ids c.args.hints.now next) ∙ sym w.has_group.ensures ∙ w.if-not-has_group.false)
      | else-has-via-else-has w ↦ misses_from l ids next clause false (has_id ids next) (sym c.has.ensures ∙ w.if-has.false) refl
    ] in
    missing_through l ids held c.loop-above.above next clause c.in-Some.ensures.some c.loop-above.invariant none

pub returns-in_default : goal.returns-in_default
returns-in_default c =
    sym (none_left c.args.l (ids_in c.args.hints.now) c.args.store.now.held c.loop-above.above c.last-last.ensures.rising c.loop-above.invariant (c.in_default.ensures.none refl))

pub returns : goal.returns
returns c =
    let held = c.args.store.now.held in
    sym (none_left c.args.l (ids_in c.args.hints.now) held c.loop-above.above c.last-last.ensures.rising c.loop-above.invariant
    (λ k high. (let past : c.args.store.now.last < k = omega (arith, high, c.loop-above-test.false, c.last-last.ensures.value) in c.last-last.ensures.none_above k past)))
