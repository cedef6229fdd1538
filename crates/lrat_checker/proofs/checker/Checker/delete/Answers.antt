use Rattle.std.proofs.Common.{sym, subst}
use Rattle.std.specs.Prelude.{IfSome}
use Rattle.lrat_model.specs.Clauses.{Held}
use Rattle.lrat_model.specs.Steps.{Database}
use Rattle.lrat_model.specs.Ranges.{AreInRange}
use Rattle.lrat_checker.specs.Subsets.{AreFound}
use Rattle.lrat_checker.proofs.RangeLaws.{range-without}
use Rattle.lrat_checker.proofs.ReadyLaws.{idle_ready, idle_trues, shown_idle}
use Rattle.lrat_checker.proofs.SubsetLaws.{found_without}
use Rattle.lrat_checker.proofs.checker.Checker.delete.Goals as goal

pub forget-requires : goal.forget-requires
forget-requires c =
    let inside = c.self.inside in
    subst (λ (d : Database). IfSome inside.subsets (AreFound d.held)) (sym c.store.ensures)
    (subst (λ (h : Held). IfSome inside.subsets (AreFound h)) (sym c.in-Ok.ensures.held) (found_without inside.subsets inside.clauses.held c.args.ids.now c.self.invariant.found))

pub invariant_of-self : goal.invariant_of-self
invariant_of-self c =
    let inside = c.self.inside in
    idle_ready _ (shown_idle inside _ c.self.view_is c.requires) (idle_trues inside _ c.self.view_is c.requires c.self.invariant)
    (subst (λ (h : Held). AreInRange inside.assignment.vars h) (sym c.in-Ok.ensures.held) (range-without inside.assignment.vars inside.clauses.held c.args.ids.now c.self.invariant.in_range))
    (subst (λ (d : Database). IfSome c.forget.new.index (AreFound d.held)) c.store.ensures c.forget.ensures)
