use Rattle.std.proofs.Common.{◌≡◌, List, refl, sym, ap, ◌∙◌, subst, Some, None}
use Rattle.std.specs.Prelude.{IfSome}
use Rattle.lrat_model.specs.Literal.{Literal}
use Rattle.lrat_model.specs.Clauses.{Held, with_clause}
use Rattle.lrat_model.specs.Steps.{Database}
use Rattle.lrat_model.specs.Ranges.{AreInRange}
use Rattle.lrat_checker.specs.Subsets.{AreFound}
use Rattle.lrat_checker.proofs.RangeLaws.{range-with_clause}
use Rattle.lrat_checker.proofs.FaultLaws.{where_ok}
use Rattle.lrat_checker.proofs.ReadyLaws.{end_shown, idle_ready, open_literals}
use Rattle.lrat_checker.proofs.checker.Checker.finish_add.Goals as goal

pub returns-in-Some-clause-refused : goal.returns-in-Some-clause-refused
returns-in-Some-clause-refused c = λ _.
    let is : c.self.inside.opened ≡ Some c.unwrap-opened.result = cc (c.unwrap-opened.ensures) in
    end_shown c.self.inside c.unwrap-opened.result is _ c.self.view_is c.deref.result.now c.hints.result.now (Some c.in-Some.fault) c.self.invariant c.deref.ensures.value c.hints.ensures c.in-Some.ensures.fault

pub returns-then-is_err-clause-memory : goal.returns-then-is_err-clause-memory
returns-then-is_err-clause-memory c = λ _.
    let is : c.self.inside.opened ≡ Some c.unwrap-opened.result = cc (c.unwrap-opened.ensures) in
    end_shown c.self.inside c.unwrap-opened.result is _ c.self.view_is c.deref.result.now c.hints.result.now None c.self.invariant c.deref.ensures.value c.hints.ensures c.in_default.ensures.fault

pub returns-clause-taken : goal.returns-clause-taken
returns-clause-taken c =
    let is : c.self.inside.opened ≡ Some c.unwrap-opened.result = cc (c.unwrap-opened.ensures) in
    end_shown c.self.inside c.unwrap-opened.result is _ c.self.view_is c.deref.result.now c.hints.result.now None c.self.invariant c.deref.ensures.value c.hints.ensures c.in_default.ensures.fault

pub invariant_of-self-2 : goal.invariant_of-self-2
invariant_of-self-2 c =
    let inside = c.self.inside in
    let o = c.unwrap-opened.result in
    let is : inside.opened ≡ Some o = cc (c.unwrap-opened.ensures) in
    let vars = inside.assignment.vars in
    let lits = inside.lits.items in
    let held : c.push.new.self.held ≡ with_clause inside.clauses.held o.id lits =
    where_ok c.push.result _ (sym c.is_err.ensures.value ∙ c.if-is_err.false) c.push.ensures.held
    ∙ ap (λ (ls : List Literal). with_clause inside.clauses.held o.id ls) c.deref-2.ensures.value in
    idle_ready _ refl c.clear.ensures.trues
    (subst (λ n. AreInRange n c.push.new.self.held) (sym c.clear.ensures.vars) (subst (λ (h : Held). AreInRange vars h) (sym held) (range-with_clause vars inside.clauses.held o.id lits c.self.invariant.in_range (open_literals inside o is c.self.invariant))))
    (subst (λ (d : Database). IfSome c.put_clause.new.index (AreFound d.held)) c.store.ensures
    (c.put_clause.ensures inside.clauses.held (ap (λ (d : Database). d.held) c.store.ensures ∙ held ∙ ap (λ (ls : List Literal). with_clause inside.clauses.held o.id ls) (sym c.deref-3.ensures.value)) c.self.invariant.found))

pub invariant_of-self : goal.invariant_of-self
invariant_of-self c = idle_ready _ refl c.clear.ensures.trues (subst (λ n. AreInRange n c.self.inside.clauses.held) (sym c.clear.ensures.vars) c.self.invariant.in_range) c.self.invariant.found
