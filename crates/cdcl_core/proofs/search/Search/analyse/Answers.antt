use Rattle.std.proofs.Common.{◌<◌, ◌≤◌, sym, subst, arith}
use Rattle.cdcl_core.specs.Guides.{IsGuide}
use Rattle.cdcl_core.specs.Search.{IsState}
use Rattle.cdcl_core.specs.Trail.{InRange}
use Rattle.cdcl_core.proofs.Runs.{id_found}
use Rattle.cdcl_core.proofs.search.Search.analyse.Goals as goal

pub analyse-requires-clause-range : goal.analyse-requires-clause-range
analyse-requires-clause-range c = subst (λ k. InRange k c.args.self.now.clauses) (sym c.requires.stuck.vars) c.requires.holding.range

pub analyse-requires-clause-state : goal.analyse-requires-clause-state
analyse-requires-clause-state c = rw c.deref.ensures.value (subst (λ k. IsState k c.args.self.now.clauses c.args.self.now.assignment.trues c.args.self.now.reasons.items) (sym c.requires.stuck.vars) c.requires.stuck.state)

pub analyse-requires-clause-small : goal.analyse-requires-clause-small
analyse-requires-clause-small c =
    let s = c.args.self.now in
    let finds = c.requires.stuck.finds in
    let ids = id_found (λ k. (0 < k) × (k ≤ s.last)) s.clauses c.requires.holding.ids c.args.conflict finds.0 finds.1 in
    omega (arith, ids.1, c.requires.room)

pub analyse-requires-clause-guide : goal.analyse-requires-clause-guide
analyse-requires-clause-guide c = subst (λ k. IsGuide k c.args.self.now.guide) (sym c.requires.stuck.vars) c.requires.stuck.guide

pub returns-clause-guide : goal.returns-clause-guide
returns-clause-guide c = subst (λ k. IsGuide k c.analyse.new.guide) c.requires.stuck.vars c.in_ok-analyse.ensures.guide
