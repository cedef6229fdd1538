use Rattle.std.proofs.Common.{◌≡◌, ◌∷◌, [], ◌+◌, ℕ, List, arith, sym, subst, ◌∙◌}
use Rattle.std.proofs.lemmas.List.Elements.{All-append, All-cons, All-nil}
use Rattle.lrat_model.specs.Literal.{Literal}
use Rattle.lrat_model.specs.Clauses.{Held}
use Rattle.lrat_model.specs.Ranges.{AreInRange, IsInRange}
use Rattle.lrat_tests.proofs.tests.store.Goals as goal

pub loop-numbers-preserved : goal.loop-numbers-preserved
loop-numbers-preserved c =
    let vars = c.args.vars in
    let clause = c.deref-in-loop-numbers.result.now in
    let own : IsInRange vars c.deref.result.now = c.are_in_range.ensures c.if-not-are_in_range.false in
    let same : c.deref.result.now ≡ clause = c.deref.ensures.value ∙ sym c.deref-in-loop-numbers.ensures.value in
    let one : AreInRange vars ((c.last-last.result + 1, clause) ∷ []) =
    All-cons (λ (e : ℕ × List Literal). IsInRange vars e.1) (c.last-last.result + 1, clause) [] (subst (λ (ls : List Literal). IsInRange vars ls) same own) (All-nil (λ (e : ℕ × List Literal). IsInRange vars e.1)) in (
      subst (λ (h : Held). AreInRange vars h) (sym c.in_ok-push.ensures.held) (All-append (λ (e : ℕ × List Literal). IsInRange vars e.1) c.loop-numbers.store.held ((c.last-last.result + 1, clause) ∷ []) c.loop-numbers.invariant.0 one),
      omega (arith, c.in_ok-push.ensures.last, c.loop-numbers.invariant.1, c.last-last.ensures.value),
    )
