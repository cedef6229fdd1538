use Rattle.std.proofs.Common.{◌≡◌, ◌∷◌, [], ◌+◌, ℕ, List, sym, subst, ◌∙◌}
use Rattle.std.proofs.lemmas.List.Elements.{All-append, All-cons, All-nil}
use Rattle.lrat_model.specs.Literal.{Literal}
use Rattle.lrat_model.specs.Clauses.{Held}
use Rattle.lrat_model.specs.Ranges.{AreInRange, IsInRange}
use Rattle.solver_bench.proofs.reading.read_clauses.Goals as goal

pub loop-line-preserved : goal.loop-line-preserved
loop-line-preserved c =
    let vars = c.args.vars in
    let clause = c.deref-in-loop-line.result.now in
    let own : IsInRange vars c.deref.result.now = c.are_in_range.ensures c.if-not-are_in_range.false in
    let same : c.deref.result.now ≡ clause = c.deref.ensures.value ∙ sym c.deref-in-loop-line.ensures.value in
    let one : AreInRange vars ((c.last-last.result + 1, clause) ∷ []) =
    All-cons (λ (e : ℕ × List Literal). IsInRange vars e.1) (c.last-last.result + 1, clause) [] (subst (λ (ls : List Literal). IsInRange vars ls) same own) (All-nil (λ (e : ℕ × List Literal). IsInRange vars e.1)) in
    subst (λ (h : Held). AreInRange vars h) (sym c.in_ok-push.ensures.held) (All-append (λ (e : ℕ × List Literal). IsInRange vars e.1) c.loop-line.store.held ((c.last-last.result + 1, clause) ∷ []) c.loop-line.invariant one)
