use Rattle.std.proofs.Common.{sym, subst, ◌∙◌}
use Rattle.lrat_model.specs.Clauses.{Held}
use Rattle.rat_candidates.specs.Counted.{AreCounted}
use Rattle.rat_candidates.proofs.CountingLaws.{counted_less, where_ok}
use Rattle.rat_candidates.proofs.store.CountedStore.remove_all.Goals as goal

pub invariant_of-self-else-is_err : goal.invariant_of-self-else-is_err
invariant_of-self-else-is_err c =
    let inside = c.self.inside in
    let ids = c.args.ids.now in
    let new = c.ids_less.new.counts.items in
    let ok = sym c.is_err.ensures.value ∙ c.if-is_err.false in
    let held = where_ok c.remove_all-removed.result _ ok c.remove_all-removed.ensures.held in
    let none = where_ok c.remove_all-removed.result _ ok c.remove_all-removed.ensures.ok in
    subst (λ (h : Held). AreCounted new h) (sym held) (counted_less inside.counts.items new inside.store.held ids c.last.ensures.rising none c.ids_less.ensures c.self.invariant)
