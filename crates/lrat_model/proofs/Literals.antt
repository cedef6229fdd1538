-- What the tests on literals tell.
use Rattle.std.proofs.Common.{◌≡◌, Bool, true, false, ◌||◌, List, [], ◌∷◌, ◌++◌, ⊎_elim, inl, inr, refl, sym, ap, ◌∙◌, subst, cond, filter}
use Rattle.std.specs.Prelude.{◌⊎◌}
use Rattle.std.specs.List.{list_all}
use Rattle.std.proofs.lemmas.Bool.{eqb-true, eq-eqb, or_cases, or_left, or_right, and_parts, and_from, false≢true}
use Rattle.lrat_model.specs.Literal.{Literal, Plus, Minus, variable_of, negated, same, has}

pub same-true : (a b : Literal) → same a b ≡ true → a ≡ b
same-true (Plus x) (Plus y) e = ap Plus (eqb-true x y e)
same-true (Plus x) (Minus y) e = absurd (false≢true e)
same-true (Minus x) (Plus y) e = absurd (false≢true e)
same-true (Minus x) (Minus y) e = ap Minus (eqb-true x y e)

pub same-itself : (a : Literal) → same a a ≡ true
same-itself (Plus x) = eq-eqb x x refl
same-itself (Minus x) = eq-eqb x x refl

pub negated-negated : (l : Literal) → negated (negated l) ≡ l
negated-negated (Plus x) = refl
negated-negated (Minus x) = refl

pub variable_of-negated : (l : Literal) → variable_of (negated l) ≡ variable_of l
variable_of-negated (Plus x) = refl
variable_of-negated (Minus x) = refl

-- a literal of a longer list is its first or in the rest
pub has-cons : (l m : Literal) (ls : List Literal) → has (l ∷ ls) m ≡ true → (m ≡ l) ⊎ (has ls m ≡ true)
has-cons l m ls e = ⊎_elim (λ h. inl (same-true m l h)) (λ h. inr h) (or_cases (same m l) (has ls m) e)

pub has-first : (l : Literal) (ls : List Literal) → has (l ∷ ls) l ≡ true
has-first l ls = or_left (same l l) (has ls l) (same-itself l)

pub has-rest : (l m : Literal) (ls : List Literal) → has ls m ≡ true → has (l ∷ ls) m ≡ true
has-rest l m ls e = or_right (same m l) (has ls m) e

swap_or : (a b c : Bool) → (a || (b || c)) ≡ (b || (a || c))
swap_or true true c = refl
swap_or true false c = refl
swap_or false true c = refl
swap_or false false c = refl

-- at its end a literal is as well placed as at its front
pub has-push : (xs : List Literal) (l m : Literal) → has (xs ++ l ∷ []) m ≡ has (l ∷ xs) m
has-push [] l m = refl
has-push (x ∷ xs) l m = ap (λ b. same m x || b) (has-push xs l m) ∙ swap_or (same m x) (same m l) (has xs m)

pub has-filter : (p : Literal → Bool) (ls : List Literal) (m : Literal) → has (filter p ls) m ≡ true → (has ls m ≡ true) × (p m ≡ true)
has-filter p [] m e = absurd (false≢true e)
has-filter p (l ∷ ls) m e =
    elim (p l) as (λ b. p l ≡ b → has (cond b (l ∷ filter p ls) (filter p ls)) m ≡ true → (has (l ∷ ls) m ≡ true) × (p m ≡ true)) [
      | true ↦ λ passes h. ⊎_elim
          (λ is. (subst (λ k. has (l ∷ ls) k ≡ true) (sym is) (has-first l ls), subst (λ k. p k ≡ true) (sym is) passes))
          (λ there. let rest : (has ls m ≡ true) × (p m ≡ true) = has-filter p ls m there in (has-rest l m ls rest.0, rest.1))
          (has-cons l m (filter p ls) h)
      | false ↦ λ _ h. let rest : (has ls m ≡ true) × (p m ≡ true) = has-filter p ls m h in (has-rest l m ls rest.0, rest.1)
    ] refl e

pub has-filter_from : (p : Literal → Bool) (ls : List Literal) (m : Literal) → has ls m ≡ true → p m ≡ true → has (filter p ls) m ≡ true
has-filter_from p [] m e passes = absurd (false≢true e)
has-filter_from p (l ∷ ls) m e passes =
    elim (p l) as (λ b. p l ≡ b → has (cond b (l ∷ filter p ls) (filter p ls)) m ≡ true) [
      | true ↦ λ _. ⊎_elim (λ is. subst (λ k. has (l ∷ filter p ls) k ≡ true) (sym is) (has-first l (filter p ls)))
          (λ there. has-rest l m (filter p ls) (has-filter_from p ls m there passes)) (has-cons l m ls e)
      | false ↦ λ fails. ⊎_elim (λ is. absurd (false≢true (sym fails ∙ subst (λ k. p k ≡ true) is passes)))
          (λ there. has-filter_from p ls m there passes) (has-cons l m ls e)
    ] refl

pub list_all-has : (p : Literal → Bool) (ls : List Literal) → list_all p ls ≡ true → (m : Literal) → has ls m ≡ true → p m ≡ true
list_all-has p [] all m e = absurd (false≢true e)
list_all-has p (l ∷ ls) all m e =
    let parts : (p l ≡ true) × (list_all p ls ≡ true) = and_parts (p l) (list_all p ls) all in
    ⊎_elim (λ is. subst (λ k. p k ≡ true) (sym is) parts.0) (λ there. list_all-has p ls parts.1 m there) (has-cons l m ls e)

pub list_all-from_has : (p : Literal → Bool) (ls : List Literal) → ((m : Literal) → has ls m ≡ true → p m ≡ true) → list_all p ls ≡ true
list_all-from_has p [] each = refl
list_all-from_has p (l ∷ ls) each =
    and_from (p l) (list_all p ls) (each l (has-first l ls)) (list_all-from_has p ls (λ m h. each m (has-rest l m ls h)))
