use Rattle.std.proofs.Common.{◌≡◌, ◌<◌, refl, sym, ap, ◌∙◌, subst, Some, w64, to_z, of_z, rules}
use mir.Val.{SFits}
use Rattle.std.proofs.lemmas.Int.{to_z-of_z}
use Rattle.lrat_model.specs.Steps.{Database}
use Rattle.lrat_model.specs.Ranges.{IsInRange, AreInRange}
use Rattle.lrat_checker.proofs.ReadyLaws.{goes_on_shown, idle_ready, open_above, open_literals, open_room, open_suits, stops_shown, unit_read}
use Rattle.lrat_checker.proofs.checker.Checker.unit_hint.Goals as goal

pub invariant_of-self : goal.invariant_of-self
invariant_of-self c =
    let inside = c.self.inside in
    let o = c.unwrap-opened.result.now in
    let is : inside.opened ≡ Some o = cc (c.as_mut.ensures.value, c.unwrap-opened.ensures) in
    record {
      nothing_true = tt;
      above = subst (λ n. inside.clauses.last < n) (sym c.after_unit.ensures.id) (open_above inside o is c.self.invariant);
      literals = subst (λ n. IsInRange n inside.lits.items) (sym c.after_unit.ensures.vars) (open_literals inside o is c.self.invariant);
      suits = c.in-Ok.ensures.suits inside.rule inside.groups.hints (open_suits inside o is c.self.invariant);
      room = open_room inside o is c.self.invariant;
      in_range = subst (λ n. AreInRange n inside.clauses.held) (sym c.after_unit.ensures.vars) c.self.invariant.in_range;
      found = c.self.invariant.found;
    }

pub returns-in-Ok-clause-taken : goal.returns-in-Ok-clause-taken
returns-in-Ok-clause-taken c =
    let inside = c.self.inside in
    let o = c.unwrap-opened.result.now in
    let is : inside.opened ≡ Some o = cc (c.as_mut.ensures.value, c.unwrap-opened.ensures) in
    let fits : SFits w64 c.args.hint = search rules in
    let same : to_z w64 (of_z w64 c.args.hint) ≡ c.args.hint = simp to_z-of_z refl in
    goes_on_shown inside o is _ c.self.view_is inside.rule c.store.result.now.held inside.lits.items (to_z w64 (of_z w64 c.args.hint)) c.args.hint refl (ap (λ (d : Database). d.held) c.store.ensures) refl same c.after_unit.new.assignment.trues inside.groups.hints c.after_unit.new.opened
    (c.in-Ok.ensures.taken inside.rule inside.lits.items inside.groups.hints (unit_read inside _ (to_z w64 (of_z w64 c.args.hint)) c.args.hint c.self.view_is same c.requires.unit) (open_suits inside o is c.self.invariant))

pub invariant_of-self-in-Err : goal.invariant_of-self-in-Err
invariant_of-self-in-Err c = idle_ready _ refl c.clear.ensures.trues (subst (λ n. AreInRange n c.self.inside.clauses.held) (sym (c.clear.ensures.vars ∙ c.after_unit.ensures.vars)) c.self.invariant.in_range) c.self.invariant.found

pub returns-in-Err-clause-refused : goal.returns-in-Err-clause-refused
returns-in-Err-clause-refused c =
    let is : c.self.inside.opened ≡ Some c.unwrap-opened.result.now = cc (c.as_mut.ensures.value, c.unwrap-opened.ensures) in
    let fits : SFits w64 c.args.hint = search rules in
    let same : to_z w64 (of_z w64 c.args.hint) ≡ c.args.hint = simp to_z-of_z refl in
    let told = c.in-Err.ensures.refused c.self.inside.rule c.self.inside.lits.items c.self.inside.groups.hints (unit_read c.self.inside _ (to_z w64 (of_z w64 c.args.hint)) c.args.hint c.self.view_is same c.requires.unit) (open_suits c.self.inside c.unwrap-opened.result.now is c.self.invariant) in
    stops_shown c.self.inside c.unwrap-opened.result.now is _ c.self.view_is c.self.inside.rule c.store.result.now.held c.self.inside.lits.items (to_z w64 (of_z w64 c.args.hint)) c.args.hint refl (ap (λ (d : Database). d.held) c.store.ensures) refl same c.in-Err.fault told
