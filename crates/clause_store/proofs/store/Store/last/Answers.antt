use Rattle.std.proofs.Common.{◌<◌, sym, ap, ◌∙◌, subst}
use Rattle.std.specs.Prelude.{AllPairs}
use Rattle.lrat_model.specs.Clauses.{clause_at}
use Rattle.lrat_model.specs.Steps.{Database}
use Rattle.clause_store.proofs.ArenaLaws.{none_at_zero, none_above, held_in-rising}
use Rattle.clause_store.proofs.store.Store.last.Goals as goal

pub returns-clause-none_above : goal.returns-clause-none_above
returns-clause-none_above c = λ k above.
    let inside = c.self.inside in
    ap (λ (d : Database). clause_at d.held k) (sym c.self.view_is) ∙ none_above inside.arena.items inside.entries.items inside.last c.self.invariant.bounded k (subst (λ (d : Database). d.last < k) (sym c.self.view_is) above)

pub returns-clause-rising : goal.returns-clause-rising
returns-clause-rising c = subst (λ (d : Database). AllPairs (λ e f. e.0 < f.0) d.held) c.self.view_is (held_in-rising c.self.inside.arena.items c.self.inside.entries.items c.self.invariant.rising)

pub returns-clause-none_at_zero : goal.returns-clause-none_at_zero
returns-clause-none_at_zero c =
    let inside = c.self.inside in
    ap (λ (d : Database). clause_at d.held 0) (sym c.self.view_is) ∙ none_at_zero inside.arena.items inside.entries.items c.self.invariant.positive
