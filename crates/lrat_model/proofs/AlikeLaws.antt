-- Lists with the same literals read clauses alike.
use Rattle.std.proofs.Common.{◌≡◌, ℕ, not, List, [], ◌∷◌, ◌++◌, ◌+◌, refl, sym, ap, ◌∙◌, ◌||◌}
use Rattle.std.proofs.lemmas.List.Elements.{filter_agree}
use Rattle.lrat_model.specs.Literal.{Literal, negated, same, has}
use Rattle.lrat_model.proofs.Literals.{has-push}
use Rattle.std.proofs.Common.{subst, Option, Some, None, ℤ, pos, negsuc}
use Rattle.lrat_model.specs.Clauses.{Held, clause_at}
use Rattle.lrat_model.specs.Propagation.{status_of, status, Outcome, Conflict, Stops, Leaves, after_status, after_finding, take_hint, and_then, propagate}
use Rattle.lrat_model.specs.declared.step.ClauseStatus.{ClauseStatus}
use Rattle.lrat_model.specs.declared.step.ClauseStatus.TheVariants.{Falsified, Forces, Unresolved}
use Rattle.lrat_model.specs.Alike.{Alike}

pub status-alike : (xs ys : List Literal) → Alike xs ys → (clause : List Literal) → status xs clause ≡ status ys clause
status-alike xs ys alike clause =
    ap status_of (filter_agree (λ l. not (has xs (negated l))) (λ l. not (has ys (negated l))) (λ l. ap not (alike (negated l))) clause)

pub Alike-push : (xs ys : List Literal) (l : Literal) → Alike xs ys → Alike (l ∷ xs) (ys ++ l ∷ [])
Alike-push xs ys l alike m = ap (λ b. same m l || b) (alike m) ∙ sym (has-push ys l m)

-- two outcomes with the same literals at most in another order
abbrev pub AreAlike : Outcome → Outcome → Type 0
AreAlike Conflict e = e ≡ Conflict
AreAlike (Stops fault) e = e ≡ Stops fault
AreAlike (Leaves xs) e = (ys : List Literal) × (e ≡ Leaves ys) × Alike xs ys

after_status-alike : (xs ys : List Literal) → Alike xs ys → (place : ℕ) (r : ClauseStatus) → AreAlike (after_status xs place r) (after_status ys place r)
after_status-alike xs ys alike place Falsified = refl
after_status-alike xs ys alike place (Forces l) = (l ∷ ys, refl, λ m. ap (λ b. same m l || b) (alike m))
after_status-alike xs ys alike place Unresolved = refl

after_finding-alike : (xs ys : List Literal) → Alike xs ys → (place id : ℕ) (found : Option (List Literal)) → AreAlike (after_finding xs place id found) (after_finding ys place id found)
after_finding-alike xs ys alike place id None = refl
after_finding-alike xs ys alike place id (Some clause) =
    subst (λ r. AreAlike (after_status xs place (status xs clause)) (after_status ys place r)) (status-alike xs ys alike clause) (after_status-alike xs ys alike place (status xs clause))

pub take_hint-alike : (held : Held) (xs ys : List Literal) → Alike xs ys → (place : ℕ) (hint : ℤ) → AreAlike (take_hint held xs place hint) (take_hint held ys place hint)
take_hint-alike held xs ys alike place (pos id) = after_finding-alike xs ys alike place id (clause_at held id)
take_hint-alike held xs ys alike place (negsuc n) = refl

pub propagate-alike : (held : Held) (xs ys : List Literal) → Alike xs ys → (place : ℕ) (hints : List ℤ) → AreAlike (propagate held xs place hints) (propagate held ys place hints)
propagate-alike held xs ys alike place [] = (ys, refl, alike)
propagate-alike held xs ys alike place (hint ∷ hints) =
    elim (take_hint held xs place hint) as (λ e. AreAlike e (take_hint held ys place hint) → AreAlike (and_then e (λ now. propagate held now (place + 1) hints)) (and_then (take_hint held ys place hint) (λ now. propagate held now (place + 1) hints))) [
      | Conflict ↦ λ same_end. ap (λ e. and_then e (λ now. propagate held now (place + 1) hints)) same_end
      | Stops fault ↦ λ same_end. ap (λ e. and_then e (λ now. propagate held now (place + 1) hints)) same_end
      | Leaves now ↦ λ same_end. subst (λ e. AreAlike (propagate held now (place + 1) hints) (and_then e (λ next. propagate held next (place + 1) hints))) (sym same_end.1) (propagate-alike held now same_end.0 same_end.2 (place + 1) hints)
    ] (take_hint-alike held xs ys alike place hint)
