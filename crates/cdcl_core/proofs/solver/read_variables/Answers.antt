use Rattle.std.proofs.Common.{◌≡◌, ◌<◌, ◌+◌, ◌++◌, ◌∷◌, [], List, take, sym, ap, ◌∙◌, subst}
use Rattle.std.specs.Prelude.{All}
use Rattle.std.proofs.lemmas.List.{take_more}
use Rattle.std.proofs.lemmas.List.Elements.{All-append, All-cons, All-nil}
use Rattle.lrat_model.specs.Literal.{Literal, variable_of}
use Rattle.cdcl_core.proofs.solver.read_variables.Goals as goal

pub loop-l-preserved : goal.loop-l-preserved
loop-l-preserved c =
    let lits = c.args.lits.now in
    let i = c.loop-l.l-index in
    let x = c.l-item.result in
    let more : take (i + 1) lits ≡ take i lits ++ x ∷ [] = take_more lits i x c.loop-l-test.true ∙ ap (λ (y : Literal). take i lits ++ y ∷ []) (sym c.l-item.is) in
    subst (λ (ls : List Literal). All (λ l. 0 < variable_of l) ls) (sym more)
    (All-append (λ (l : Literal). 0 < variable_of l) (take i lits) (x ∷ []) c.loop-l.invariant (All-cons (λ (l : Literal). 0 < variable_of l) x [] (subst (λ n. 0 < n) c.variable-variable.ensures.value c.variable-variable.ensures.nonzero) (All-nil (λ (l : Literal). 0 < variable_of l))))
