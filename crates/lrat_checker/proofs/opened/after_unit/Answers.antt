use Rattle.std.proofs.Common.{◌≡◌, ℕ, ℤ, sym, ◌∙◌, subst, refl, arith, Ok, w64, to_z, of_z, rules}
use mir.Val.{SFits}
use Rattle.std.proofs.lemmas.Int.{to_z-of_z}
use Rattle.lrat_model.specs.Propagation.{take_hint}
use Rattle.lrat_checker.specs.Hints.{Took}
use Rattle.lrat_checker.proofs.CourseLaws.{goes_on}
use Rattle.lrat_checker.proofs.opened.after_unit.Goals as goal

pub returns-clause-taken : goal.returns-clause-taken
returns-clause-taken c = λ rule lits groups unit suits.
    let held = c.args.store.now.held in
    let old = c.args.assignment.now.trues in
    let new = c.take_hint.new.assignment.trues in
    let o = c.args.opened.now in
    let h = c.in_ok-hinting.hinting in
    let fits : SFits w64 c.args.hint = search rules in
    let same : to_z w64 (of_z w64 c.args.hint) ≡ c.args.hint = simp to_z-of_z refl in
    let place = c.place-opened.result in
    let told : Took (take_hint held old place (to_z w64 (of_z w64 c.args.hint))) (Ok h) new = c.in_ok-hinting.ensures.outcome in
    let took : Took (take_hint held old c.lead.new.self.hints c.args.hint) (Ok h) new =
    subst (λ (k : ℕ). Took (take_hint held old k c.args.hint) (Ok h) new) (sym c.lead.ensures.hints) (subst (λ (z : ℤ). Took (take_hint held old place z) (Ok h) new) same told) in
    goes_on held lits old new groups o c.lead.new.self c.args.hint c.lead.ensures.id (omega (arith, c.lead.ensures.hints, c.place-opened.ensures.next)) (λ small. c.lead.ensures.hints ∙ c.place-opened.ensures.place small) rule h (sym c.is_over.ensures ∙ c.if-is_over.false) c.lead.ensures.course took c.in_ok-hinting.ensures.grows unit suits
