-- The literals of a lemma, one after another, while their negations are made true.
use Rattle.std.proofs.Common.{◌≡◌, ℕ, ◌<◌, ◌≤◌, ◌+◌, true, false, ◌||◌, cond, List, [], ◌∷◌, ◌++◌, length, get_or, take, drop, map, refl, sym, ap, ◌∙◌, Some}
use Rattle.std.proofs.lemmas.Bool.{le-ltb}
use Rattle.std.proofs.lemmas.List.{take_more, drop_more, map-append}
use Rattle.lrat_model.specs.Literal.{Literal, Plus, Minus, variable_of, negated, same, has}
use Rattle.lrat_model.specs.Steps.{literal_fault}
use Rattle.lrat_model.specs.declared.step.StepFault.TheVariants.{BadLiteral, Tautology}
use Rattle.lrat_model.specs.Alike.{Alike}
use Rattle.lrat_model.proofs.Literals.{has-push}

same-negated : (m l : Literal) → same m (negated l) ≡ same (negated m) l
same-negated (Plus x) (Plus y) = refl
same-negated (Plus x) (Minus y) = refl
same-negated (Minus x) (Plus y) = refl
same-negated (Minus x) (Minus y) = refl

-- a literal is among the negations where its negation is among the literals
has-map_negated : (ls : List Literal) (m : Literal) → has (map negated ls) m ≡ has ls (negated m)
has-map_negated [] m = refl
has-map_negated (l ∷ ls) m = ap (λ b. b || has (map negated ls) m) (same-negated m l) ∙ ap (λ b. same (negated m) l || b) (has-map_negated ls m)

module _ (vars : ℕ) (lits : List Literal) (i : ℕ) (l : Literal) (trues : List Literal) (within : i < length lits) (here : l ≡ get_or lits i l) (alike : Alike (map negated (take i lits)) trues) where
  taken : take (i + 1) lits ≡ take i lits ++ l ∷ []
  taken = take_more lits i l within ∙ ap (λ k. take i lits ++ k ∷ []) (sym here)

  pub alike_more : (new : List Literal) → Alike (negated l ∷ trues) new → Alike (map negated (take (i + 1) lits)) new
  alike_more new now m =
      ap (λ ls. has (map negated ls) m) taken
      ∙ ap (λ ls. has ls m) (map-append negated (take i lits) (l ∷ []))
      ∙ has-push (map negated (take i lits)) (negated l) m
      ∙ ap (λ b. same m (negated l) || b) (alike m)
      ∙ now m

  module _ (range : variable_of l ≤ vars) (so_far : literal_fault vars (take i lits) (drop i lits) ≡ literal_fault vars [] lits) where
    fault_at : literal_fault vars (take i lits) (drop i lits) ≡ cond (has trues l) (Some (Tautology l)) (literal_fault vars (take i lits ++ l ∷ []) (drop (i + 1) lits))
    fault_at =
        ap (literal_fault vars (take i lits)) (drop_more lits i l within ∙ ap (λ k. k ∷ drop (i + 1) lits) (sym here))
        ∙ ap (λ b. cond b (Some (BadLiteral l)) (cond (has (take i lits) (negated l)) (Some (Tautology l)) (literal_fault vars (take i lits ++ l ∷ []) (drop (i + 1) lits)))) (le-ltb vars (variable_of l) range)
        ∙ ap (λ b. cond b (Some (Tautology l)) (literal_fault vars (take i lits ++ l ∷ []) (drop (i + 1) lits))) (sym (has-map_negated (take i lits) l) ∙ alike l)

    pub tautology_here : has trues l ≡ true → Some (Tautology l) ≡ literal_fault vars [] lits
    tautology_here is = sym (fault_at ∙ ap (λ b. cond b (Some (Tautology l)) (literal_fault vars (take i lits ++ l ∷ []) (drop (i + 1) lits))) is) ∙ so_far

    pub no_fault_here : has trues l ≡ false → literal_fault vars (take (i + 1) lits) (drop (i + 1) lits) ≡ literal_fault vars [] lits
    no_fault_here is =
        ap (λ ls. literal_fault vars ls (drop (i + 1) lits)) taken
        ∙ sym (fault_at ∙ ap (λ b. cond b (Some (Tautology l)) (literal_fault vars (take i lits ++ l ∷ []) (drop (i + 1) lits))) is) ∙ so_far
