-- Some of the inputs, in their order, as a set of literals.
use Rattle.std.proofs.Common.{◌≡◌, ◌≢◌, ℕ, suc, ◌<◌, true, false, cond, List, [], ◌∷◌, length, get_or, ⊎_elim, refl, sym, ◌∙◌, subst, arith}
use Rattle.std.specs.Prelude.{◌==◌, AllPairs}
use Rattle.std.proofs.lemmas.Bool.{false≢true, or_cases, or_left, or_right, eqb-true, eq-eqb}
use Rattle.lrat_model.specs.Literal.{Literal, Plus, same, has}
use Rattle.lrat_model.proofs.Literals.{same-true, has-cons}
use Rattle.cardinality_counts.specs.Gates.{is_part, has_number}
use Rattle.cardinality_counts.proofs.Tallies.{IsDistinct}

-- the literal is that of one of these
abbrev pub IsInput : List ℕ → Literal → Type 0
IsInput inputs l = (x : ℕ) × (l ≡ Plus x) × (has_number inputs x ≡ true)

one_more : (x : ℕ) (xs : List ℕ) (l : Literal) → IsInput xs l → IsInput (x ∷ xs) l
one_more x xs l input = (input.0, input.1, or_right (x == input.0) (has_number xs input.0) input.2)

pub part_inputs : (inputs : List ℕ) (set : List Literal) → is_part set inputs ≡ true → (l : Literal) → has set l ≡ true → IsInput inputs l
part_inputs inputs [] part l there = absurd (false≢true there)
part_inputs [] (k ∷ ks) part l there = absurd (false≢true part)
part_inputs (x ∷ xs) (k ∷ ks) part l there =
    elim (same k (Plus x)) as (λ b. same k (Plus x) ≡ b → cond b (is_part ks xs) (is_part (k ∷ ks) xs) ≡ true → IsInput (x ∷ xs) l) [
      | true ↦ λ is rest. ⊎_elim
          (λ (first : l ≡ k). (x, first ∙ same-true k (Plus x) is, or_left (x == x) (has_number xs x) (eq-eqb x x refl)))
          (λ later. one_more x xs l (part_inputs xs ks rest l later))
          (has-cons k l ks there)
      | false ↦ λ _ rest. one_more x xs l (part_inputs xs (k ∷ ks) rest l there)
    ] refl part

-- what a list has stands at a place
pub place_of : (xs : List ℕ) (x : ℕ) → has_number xs x ≡ true → (i : ℕ) × (i < length xs) × (get_or xs i x ≡ x)
place_of [] x there = absurd (false≢true there)
place_of (y ∷ ys) x there =
    ⊎_elim
    (λ (first : (y == x) ≡ true). (0, omega arith, eqb-true y x first))
    (λ later. let at : (i : ℕ) × (i < length ys) × (get_or ys i x ≡ x) = place_of ys x later in (suc at.0, omega (arith, at.1), at.2))
    (or_cases (y == x) (has_number ys x) there)

apart_tail : (x : ℕ) (xs : List ℕ) → AllPairs (λ y z. y ≢ z) (x ∷ xs) → AllPairs (λ y z. y ≢ z) xs
apart_tail x xs apart i j d less within = apart (suc i) (suc j) d (omega (arith, less)) (omega (arith, within))

apart_head : (x : ℕ) (xs : List ℕ) → AllPairs (λ y z. y ≢ z) (x ∷ xs) → has_number xs x ≡ true → ⊥
apart_head x xs apart there =
    let at : (i : ℕ) × (i < length xs) × (get_or xs i x ≡ x) = place_of xs x there in
    apart 0 (suc at.0) x (omega arith) (omega (arith, at.1)) (sym at.2)

pub part_distinct : (inputs : List ℕ) (set : List Literal) → AllPairs (λ y z. y ≢ z) inputs → is_part set inputs ≡ true → IsDistinct set
part_distinct inputs [] apart part = tt
part_distinct [] (k ∷ ks) apart part = absurd (false≢true part)
part_distinct (x ∷ xs) (k ∷ ks) apart part =
    elim (same k (Plus x)) as (λ b. same k (Plus x) ≡ b → cond b (is_part ks xs) (is_part (k ∷ ks) xs) ≡ true → IsDistinct (k ∷ ks)) [
      | true ↦ λ is rest. (fresh rest (same-true k (Plus x) is), part_distinct xs ks (apart_tail x xs apart) rest)
      | false ↦ λ _ rest. part_distinct xs (k ∷ ks) (apart_tail x xs apart) rest
    ] refl part
  where
    fresh : is_part ks xs ≡ true → k ≡ Plus x → has ks k ≡ false
    fresh rest own =
        elim (has ks k) as (λ b. has ks k ≡ b → b ≡ false) [
          | true ↦ λ there.
              let input : IsInput xs k = part_inputs xs ks rest k there in
              let is : input.0 ≡ x = cc in
              absurd (apart_head x xs apart (subst (λ y. has_number xs y ≡ true) is input.2))
          | false ↦ λ _. refl
        ] refl
