use Rattle.std.proofs.Common.{◌≡◌, ◌<◌, List, refl, sym, ap, ◌∙◌, subst, Some}
use Rattle.lrat_model.specs.Literal.{Literal}
use Rattle.lrat_model.specs.Steps.{Database}
use Rattle.lrat_model.specs.Ranges.{IsInRange, AreInRange}
use Rattle.lrat_model.specs.declared.step.Rule.{Rule}
use Rattle.lrat_model.specs.declared.step.Rule.TheVariants.{Rat}
use Rattle.lrat_checker.specs.Checking.{Stepping}
use Rattle.lrat_checker.specs.Courses.{Suits, IsNamed, HasGroupRoom}
use Rattle.lrat_checker.proofs.ReadyLaws.{goes_on_shown, idle_ready, open_above, open_literals, open_room, open_suits, stops_shown}
use Rattle.lrat_checker.proofs.checker.Checker.group_hint.Goals as goal

pub keep_group-requires-clause-named : goal.keep_group-requires-clause-named
keep_group-requires-clause-named c =
    subst (λ (d : Database). IsNamed d.held c.deref-in-Ok.result.now c.args.id) c.store.ensures
    (subst (λ (ls : List Literal). IsNamed c.store.result.now.held ls c.args.id) (c.deref.ensures.value ∙ sym c.deref-in-Ok.ensures.value) c.in-Ok.ensures.candidate)

pub keep_group-requires-clause-room : goal.keep_group-requires-clause-room
keep_group-requires-clause-room c =
    let inside = c.self.inside in
    let is : inside.opened ≡ Some c.unwrap-opened.result = cc (c.unwrap-opened.ensures) in
    let rat : inside.rule ≡ Rat = ap (λ (s : Stepping). s.rule) c.self.view_is ∙ c.requires.rule in
    subst (λ (ls : List Literal). HasGroupRoom Rat inside.clauses.held ls inside.groups) (sym c.deref-in-Ok.ensures.value)
    (subst (λ (r : Rule). HasGroupRoom r inside.clauses.held inside.lits.items inside.groups) rat (open_room inside c.unwrap-opened.result is c.self.invariant))

pub invariant_of-self : goal.invariant_of-self
invariant_of-self c =
    let inside = c.self.inside in
    let is : inside.opened ≡ Some c.unwrap-opened.result = cc (c.unwrap-opened.ensures) in
    let rat : inside.rule ≡ Rat = ap (λ (s : Stepping). s.rule) c.self.view_is ∙ c.requires.rule in
    let kept = c.keep_group.new.groups in
    record {
      nothing_true = tt;
      above = subst (λ n. inside.clauses.last < n) (sym c.in-Ok.ensures.id) (open_above inside c.unwrap-opened.result is c.self.invariant);
      literals = subst (λ n. IsInRange n inside.lits.items) (sym c.after_group.ensures.vars) (open_literals inside c.unwrap-opened.result is c.self.invariant);
      suits = subst (λ (r : Rule). Suits r c.after_group.new.assignment.trues kept.hints c.in-Ok.next.course) (sym rat) (c.in-Ok.ensures.suits kept.hints);
      room = subst (λ (r : Rule). HasGroupRoom r inside.clauses.held inside.lits.items kept) (sym rat)
          (subst (λ (ls : List Literal). HasGroupRoom Rat inside.clauses.held ls kept) c.deref-in-Ok.ensures.value c.keep_group.ensures.room);
      in_range = subst (λ n. AreInRange n inside.clauses.held) (sym c.after_group.ensures.vars) c.self.invariant.in_range;
      found = c.self.invariant.found;
    }

pub returns-in-Ok-clause-taken : goal.returns-in-Ok-clause-taken
returns-in-Ok-clause-taken c =
    let inside = c.self.inside in
    let o = c.unwrap-opened.result in
    let is : inside.opened ≡ Some o = cc (c.unwrap-opened.ensures) in
    let rat : inside.rule ≡ Rat = ap (λ (s : Stepping). s.rule) c.self.view_is ∙ c.requires.rule in
    let suits = subst (λ (r : Rule). Suits r inside.assignment.trues inside.groups.hints o.course) rat (open_suits inside o is c.self.invariant) in
    let kept = c.keep_group.new.groups.hints in
    goes_on_shown inside o is _ c.self.view_is Rat c.store.result.now.held c.deref.result.now c.args.hint c.args.hint rat (ap (λ (d : Database). d.held) c.store.ensures) c.deref.ensures.value refl c.after_group.new.assignment.trues kept c.in-Ok.next (c.in-Ok.ensures.taken c.args.hint inside.groups.hints kept c.requires.names c.keep_group.ensures.named suits)

pub invariant_of-self-in-Err : goal.invariant_of-self-in-Err
invariant_of-self-in-Err c = idle_ready _ refl c.clear.ensures.trues (subst (λ n. AreInRange n c.self.inside.clauses.held) (sym (c.clear.ensures.vars ∙ c.after_group.ensures.vars)) c.self.invariant.in_range) c.self.invariant.found

pub returns-in-Err-clause-refused : goal.returns-in-Err-clause-refused
returns-in-Err-clause-refused c =
    let inside = c.self.inside in
    let is : inside.opened ≡ Some c.unwrap-opened.result = cc (c.unwrap-opened.ensures) in
    let rat : inside.rule ≡ Rat = ap (λ (s : Stepping). s.rule) c.self.view_is ∙ c.requires.rule in
    let told = c.in-Err.ensures.refused c.args.hint inside.groups.hints c.requires.names (subst (λ (r : Rule). Suits r inside.assignment.trues inside.groups.hints c.unwrap-opened.result.course) rat (open_suits inside c.unwrap-opened.result is c.self.invariant)) in
    stops_shown inside c.unwrap-opened.result is _ c.self.view_is Rat c.store.result.now.held c.deref.result.now c.args.hint c.args.hint rat (ap (λ (d : Database). d.held) c.store.ensures) c.deref.ensures.value refl c.in-Err.fault told
