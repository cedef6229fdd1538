use Rattle.std.proofs.Common.{◌≡◌, ◌+◌, pos, get_or, List, length, ap, sym, ◌∙◌, subst, Some, None, w64, rules}
use mir.Val.{SFits}
use Rattle.std.proofs.lemmas.Int.{to_z-of_z}
use Rattle.lrat_model.specs.Steps.{outcome_fault}
use Rattle.lrat_model.specs.Rat.{first_hints, take_group}
use Rattle.lrat_model.specs.Alike.{Alike}
use Rattle.lrat_model.specs.Literal.{Literal}
use Rattle.assignment_trail.specs.Assigned.{Assigned}
use Rattle.rat_candidates.specs.Groups.{group_id}
use Rattle.lrat_checker.proofs.GroupLaws.{rest_whole, groups_passed, group_stops, group_goes_on}
use Rattle.lrat_checker.proofs.TrailLaws.{restored}
use Rattle.lrat_checker.proofs.rat.groups_fault.Goals.{in-Some+else-is_some, in_default}
use Rattle.lrat_checker.proofs.rat.groups_fault.Goals as goal

pub returns-then-is_some-clause-fault : goal.returns-then-is_some-clause-fault
returns-then-is_some-clause-fault c = λ trues alike.
    let hints = c.args.hints.now in
    let i = c.loop-i.i in
    let fits : SFits w64 (get_or hints i (pos 0)) = search rules in
    let names : Some c.in-Some.id ≡ group_id (get_or hints i (pos 0)) = simp to_z-of_z at c.in-Some.ensures in
    let alike_now : Alike trues c.loop-i.assignment.trues = subst (λ (a : Assigned). Alike trues a.trues) (sym c.loop-i.invariant.unchanged) alike in
    group_stops c.args.store.now.held trues c.args.pivot hints i c.loop-i-test.true (c.loop-i.invariant.so_far trues alike) c.in-Some.id names c.group_fault-fault.result (subst (λ hs. c.group_fault-fault.result ≡ outcome_fault (take_group c.args.store.now.held trues c.args.pivot (record { place = i + 1; id = c.in-Some.id; hints = first_hints hs }))) (rest_whole hints (i + 1)) (c.group_fault-fault.ensures.fault trues alike_now)) (sym c.is_some.ensures ∙ c.if-is_some.true)

pub loop-i-preserved : goal.loop-i-preserved
loop-i-preserved c =
    let hints = c.args.hints.now in
    let i = c.loop-i.i in
    let fits : SFits w64 (get_or hints i (pos 0)) = search rules in
    elim c.match-group_id.branch [
      | in-Some+else-is_some w ↦ record {
        unchanged = w.assignment-is ∙ restored c.loop-i.assignment w.group_fault-fault.new.assignment w.group_fault-fault.ensures.grows w.undo_to.new.assignment (length w.trail-count.result.now) (ap (λ (ls : List Literal). length ls) w.trail-count.ensures) w.undo_to.ensures.trues (w.undo_to.ensures.vars ∙ w.group_fault-fault.ensures.vars) ∙ c.loop-i.invariant.unchanged;
        so_far = λ trues alike.
            let names : Some w.in-Some.id ≡ group_id (get_or hints i (pos 0)) = simp to_z-of_z at w.in-Some.ensures in
            let alike_now : Alike trues c.loop-i.assignment.trues = subst (λ (a : Assigned). Alike trues a.trues) (sym c.loop-i.invariant.unchanged) alike in
            group_goes_on c.args.store.now.held trues c.args.pivot hints i c.loop-i-test.true (c.loop-i.invariant.so_far trues alike) w.in-Some.id names w.group_fault-fault.result (subst (λ hs. w.group_fault-fault.result ≡ outcome_fault (take_group c.args.store.now.held trues c.args.pivot (record { place = i + 1; id = w.in-Some.id; hints = first_hints hs }))) (rest_whole hints (i + 1)) (w.group_fault-fault.ensures.fault trues alike_now)) (sym w.is_some.ensures ∙ w.if-is_some.false);
      }
      | in_default w ↦ record {
        unchanged = w.assignment-is ∙ c.loop-i.invariant.unchanged;
        so_far = λ trues alike.
            let names : None ≡ group_id (get_or hints i (pos 0)) = simp to_z-of_z at w.in_default.ensures in
            groups_passed c.args.store.now.held trues c.args.pivot hints i c.loop-i-test.true (c.loop-i.invariant.so_far trues alike) names;
      }
    ]
