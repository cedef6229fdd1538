use Rattle.std.proofs.Common.{◌∷◌, Bool, List, sym, subst, refl, Some}
use Rattle.lrat_model.specs.Literal.{Literal}
use Rattle.lrat_model.specs.declared.step.Rule.TheVariants.{Rat}
use Rattle.lrat_checker.specs.declared.opened.Opened.{Opened}
use Rattle.lrat_checker.specs.declared.opened.Course.TheVariants.{InGroup}
use Rattle.lrat_checker.specs.Adding.{GoesOn}
use Rattle.lrat_checker.specs.Courses.{adding_of, IsNamed}
use Rattle.lrat_checker.proofs.CourseLaws.{first_of, group_goes}
use Rattle.lrat_checker.proofs.opened.after_group.Goals as goal

pub returns-clause-taken : goal.returns-clause-taken
returns-clause-taken c = λ hint groups later names named suits.
    let held = c.args.store.now.held in
    let old = c.args.assignment.now.trues in
    let before = c.end_group.new.assignment.trues in
    let new = c.open_group.new.assignment.trues in
    let o = c.args.opened in
    let pivot = c.in-Some.pivot.now in
    let first = first_of c.args.lits.now pivot c.in-Some.ensures.value in
    let count = c.in_ok-before.before in
    let place = c.place-place.result in
    let next : Bool → Opened = λ is_done. record { id = o.id; hints = place; course = InGroup count is_done } in
    subst (λ (ls : List Literal). GoesOn Rat held hint (Some (adding_of ls old groups o)) (Some (adding_of ls new later (next c.has_met.result)))) (sym first.1)
    (subst (λ (b : Bool). GoesOn Rat held hint (Some (adding_of (pivot ∷ first.0) old groups o)) (Some (adding_of (pivot ∷ first.0) new later (next b)))) (sym c.has_met.ensures)
    (group_goes held old before groups o hint c.args.id names (c.in_ok-before.ensures.ended groups suits) place c.place-place.ensures.place pivot first.0 new later c.in_ok-end.end count c.place-place.ensures.next c.in_ok-before.ensures.count
    named (c.in_ok-end.ensures.opens before (λ m. refl)) c.in_ok-end.ensures.grows))

pub returns-clause-candidate : goal.returns-clause-candidate
returns-clause-candidate c =
    let first = first_of c.args.lits.now c.in-Some.pivot.now c.in-Some.ensures.value in
    subst (λ (ls : List Literal). IsNamed c.args.store.now.held ls c.args.id) (sym first.1) c.in_ok-end.ensures.candidate
