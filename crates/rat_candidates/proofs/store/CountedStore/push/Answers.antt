use Rattle.std.proofs.Common.{sym, subst}
use Rattle.lrat_model.specs.Clauses.{Held}
use Rattle.rat_candidates.specs.Counted.{AreCounted}
use Rattle.rat_candidates.proofs.CountingLaws.{counted_more}
use Rattle.rat_candidates.proofs.store.CountedStore.push.Goals as goal

pub invariant_of-self-2 : goal.invariant_of-self-2
invariant_of-self-2 c =
    let inside = c.self.inside in
    let new = c.count_more.new.counts.items in
    subst (λ (h : Held). AreCounted new h) (sym c.in_ok-push.ensures.held) (counted_more inside.counts.items new inside.store.held c.args.id c.args.lits.now c.count_more.ensures c.self.invariant)
