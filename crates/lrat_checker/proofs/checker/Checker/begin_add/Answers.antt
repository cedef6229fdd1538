use Rattle.std.proofs.Common.{◌≡◌, ◌<◌, List, [], refl, sym, ap, ◌∙◌, subst, arith, None}
use Rattle.lrat_model.specs.Literal.{Literal}
use Rattle.lrat_model.specs.Steps.{Database, literal_fault}
use Rattle.lrat_model.specs.Rules.{addition_fault_by}
use Rattle.lrat_checker.specs.Adding.{unit_fault}
use Rattle.lrat_model.specs.Ranges.{IsInRange, AreInRange}
use Rattle.std.proofs.Common.{ℕ}
use Rattle.lrat_checker.specs.Checking.{Stepping}
use Rattle.lrat_checker.proofs.FaultLaws.{range-literal_fault, literal_fault-not_memory, where_ok}
use Rattle.lrat_checker.specs.Courses.{HasGroupRoom}
use Rattle.lrat_checker.proofs.AddingLaws.{begun_fault}
use Rattle.lrat_checker.proofs.ReadyLaws.{idle_ready, shown_idle}
use Rattle.lrat_checker.proofs.checker.Checker.begin_add.Goals as goal

pub invariant_of-self-2 : goal.invariant_of-self-2
invariant_of-self-2 c =
    let inside = c.self.inside in
    let lits = c.args.lits.now in
    let none : literal_fault inside.assignment.vars [] lits ≡ None = sym c.in_default.ensures.fault in
    let ok = sym c.is_err.ensures.value ∙ c.if-is_err.false in
    let copied : c.make_room.new.copy.items ≡ lits = where_ok c.make_room.result _ ok c.make_room.ensures.copy in
    record {
      nothing_true = tt;
      above = omega (arith, c.if-id-last.false, c.last-last.ensures.value, ap (λ (d : Database). d.last) c.store.ensures);
      suits = where_ok c.make_room.result _ ok c.make_room.ensures.hints;
      room = subst (λ (xs : List Literal). HasGroupRoom inside.rule inside.clauses.held xs c.make_room.new.groups) (sym copied) (where_ok c.make_room.result _ ok c.make_room.ensures.room);
      literals = subst (λ (n : ℕ). IsInRange n c.make_room.new.copy.items) (sym c.assume_negations.ensures.vars) (subst (λ (xs : List Literal). IsInRange inside.assignment.vars xs) (sym copied) (range-literal_fault inside.assignment.vars [] lits none));
      in_range = subst (λ (n : ℕ). AreInRange n inside.clauses.held) (sym c.assume_negations.ensures.vars) c.self.invariant.in_range;
      found = c.self.invariant.found;
    }

pub returns-in-Some-clause-memory : goal.returns-in-Some-clause-memory
returns-in-Some-clause-memory c = λ is. absurd (literal_fault-not_memory c.self.inside.assignment.vars [] c.args.lits.now (sym c.in-Some.ensures.fault ∙ cc))

pub returns-then-is_err-clause-memory : goal.returns-then-is_err-clause-memory
returns-then-is_err-clause-memory c = λ _.
    let inside = c.self.inside in
    let above : inside.clauses.last < c.args.id = omega (arith, c.if-id-last.false, c.last-last.ensures.value, ap (λ (d : Database). d.last) c.store.ensures) in
    let none : literal_fault inside.assignment.vars [] c.args.lits.now ≡ None = sym c.in_default.ensures.fault in
    subst (λ (s : Stepping). (s.database.last < c.args.id) × (literal_fault s.vars [] c.args.lits.now ≡ None)) c.self.view_is (above, none)

pub returns-clause-opened : goal.returns-clause-opened
returns-clause-opened c =
    let inside = c.self.inside in
    let lits = c.args.lits.now in
    let trues = c.assume_negations.new.assignment.trues in
    let none : literal_fault inside.assignment.vars [] lits ≡ None = sym c.in_default.ensures.fault in
    let copied : c.make_room.new.copy.items ≡ lits = where_ok c.make_room.result _ (sym c.is_err.ensures.value ∙ c.if-is_err.false) c.make_room.ensures.copy in (
      refl,
      copied,
      refl,
      λ hints.
          ap (λ (ls : List Literal). unit_fault c.args.self.now.rule c.args.self.now.database.held ls trues 1 hints) copied
          ∙ sym (ap (λ (s : Stepping). unit_fault s.rule s.database.held lits trues 1 hints) c.self.view_is)
          ∙ begun_fault inside.rule inside.assignment.vars inside.clauses c.args.id lits trues hints (omega (arith, c.if-id-last.false, c.last-last.ensures.value, ap (λ (d : Database). d.last) c.store.ensures)) none (c.in_default.ensures.trues refl)
          ∙ ap (λ (s : Stepping). addition_fault_by s.rule s.vars s.database c.args.id lits hints) c.self.view_is,
    )

pub invariant_of-self : goal.invariant_of-self
invariant_of-self c = idle_ready _ (shown_idle c.self.inside _ c.self.view_is c.requires) c.clear.ensures.trues (subst (λ n. AreInRange n c.self.inside.clauses.held) (sym (c.clear.ensures.vars ∙ c.assume_negations.ensures.vars)) c.self.invariant.in_range) c.self.invariant.found

pub invariant_of-self-then-is_err : goal.invariant_of-self-then-is_err
invariant_of-self-then-is_err c = idle_ready _ (shown_idle c.self.inside _ c.self.view_is c.requires) c.clear-then-is_err.ensures.trues (subst (λ n. AreInRange n c.self.inside.clauses.held) (sym (c.clear-then-is_err.ensures.vars ∙ c.assume_negations.ensures.vars)) c.self.invariant.in_range) c.self.invariant.found
