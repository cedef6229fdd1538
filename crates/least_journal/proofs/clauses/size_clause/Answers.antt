use Rattle.std.proofs.Common.{◌≡◌, ℕ, ◌≤◌, ◌++◌, [], ◌∷◌, List, ap, ap₂, sym, subst, ◌∙◌, arith}
use Rattle.std.proofs.lemmas.List.Elements.{All-nil, All-cons}
use Rattle.fbas_model.specs.Nodes.{size}
use Rattle.lrat_model.specs.Literal.{Literal, Minus, variable_of}
use Rattle.lrat_model.specs.Ranges.{IsInRange}
use Rattle.clause_encoder.specs.declared.limits.TheConstants.{MOST_VARS}
use Rattle.clause_encoder.specs.NameCounter.{counted, counter_vars}
use Rattle.least_journal.proofs.Sizing.{last_row, size_place}
use Rattle.least_journal.proofs.clauses.size_clause.Goals as goal

pub at_least-variable-requires-clause-few : goal.at_least-variable-requires-clause-few
at_least-variable-requires-clause-few c =
    let place = size_place c.args.greatest.now c.args.set.now c.requires.same_n c.requires.within c.requires.some in
    omega (arith, place.2, c.count.ensures, c.count-2.ensures)

pub negative-requires-clause-small : goal.negative-requires-clause-small
negative-requires-clause-small c =
    let place = size_place c.args.greatest.now c.args.set.now c.requires.same_n c.requires.within c.requires.some in
    let few : counter_vars c.count.result ≤ MOST_VARS = subst (λ (n : ℕ). counter_vars n ≤ MOST_VARS) (sym c.count.ensures) c.requires.vars in
    omega (arith, last_row c.count.result c.count-2.result, few, place.2, c.count.ensures, c.count-2.ensures, c.at_least-variable.ensures)

pub returns-clause-range : goal.returns-clause-range
returns-clause-range c =
    let g = c.args.greatest.now in
    let place = size_place g c.args.set.now c.requires.same_n c.requires.within c.requires.some in
    let variable_is = c.at_least-variable.ensures ∙ ap₂ (λ (n m : ℕ). counted n n m) c.count.ensures c.count-2.ensures in
    let items : c.push.new.self.items ≡ Minus (counted (size g) (size g) (size c.args.set.now)) ∷ [] =
    c.in_ok-push.ensures.items ∙ ap₂ (λ (ls : List Literal) (l : Literal). ls ++ l ∷ []) c.new-clause.ensures.items (c.negative.ensures ∙ ap Minus variable_is) in
    subst (λ (ls : List Literal). IsInRange (counter_vars (size g)) ls) (sym items)
    (All-cons (λ (l : Literal). variable_of l ≤ counter_vars (size g)) (Minus (counted (size g) (size g) (size c.args.set.now))) [] place.1 (All-nil (λ (l : Literal). variable_of l ≤ counter_vars (size g))))
