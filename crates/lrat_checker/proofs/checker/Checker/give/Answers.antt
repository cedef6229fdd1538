use Rattle.std.proofs.Common.{◌∙◌, ap, sym, subst}
use Rattle.std.specs.Prelude.{IfSome}
use Rattle.lrat_model.specs.Clauses.{Held}
use Rattle.lrat_model.specs.Steps.{Database}
use Rattle.lrat_model.specs.Ranges.{IsInRange, AreInRange}
use Rattle.lrat_checker.specs.Checking.{Stepping}
use Rattle.lrat_checker.specs.Subsets.{AreFound}
use Rattle.lrat_checker.proofs.RangeLaws.{range-with_clause}
use Rattle.lrat_checker.proofs.ReadyLaws.{idle_ready, idle_trues, shown_idle}
use Rattle.lrat_checker.proofs.checker.Checker.give.Goals as goal

pub invariant_of-self-2 : goal.invariant_of-self-2
invariant_of-self-2 c =
    let inside = c.self.inside in
    let held = c.in_ok-push.ensures.held in
    let within = subst (λ (s : Stepping). IsInRange s.vars c.args.lits.now) (sym c.self.view_is) c.requires.range in
    idle_ready _ (shown_idle inside _ c.self.view_is c.requires.closed) (idle_trues inside _ c.self.view_is c.requires.closed c.self.invariant)
    (subst (λ (h : Held). AreInRange inside.assignment.vars h) (sym held) (range-with_clause inside.assignment.vars inside.clauses.held c.args.id c.args.lits.now c.self.invariant.in_range within))
    (subst (λ (d : Database). IfSome c.put_clause.new.index (AreFound d.held)) c.store.ensures (c.put_clause.ensures inside.clauses.held (ap (λ (d : Database). d.held) c.store.ensures ∙ held) c.self.invariant.found))
