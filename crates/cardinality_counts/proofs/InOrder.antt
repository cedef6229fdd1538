-- That some literals are some of the inputs, step by step.
use Rattle.std.proofs.Common.{◌≡◌, ℕ, ◌+◌, ◌<◌, true, List, [], ◌∷◌, length, get_or, drop, drop-cons, refl, sym, ap, ◌∙◌, subst, inl, inr, add-one}
use Rattle.std.proofs.lemmas.Bool.{cases_Bool, false≢true, eq-eqb}
use Rattle.lrat_model.specs.Literal.{Literal, Plus, same}
use Rattle.cardinality_counts.specs.Gates.{is_part}

part_past : (ls : List Literal) (x : ℕ) (xs : List ℕ) → ((m : Literal) (ms : List Literal) → is_part (m ∷ ms) xs ≡ true → is_part ms xs ≡ true) → is_part ls xs ≡ true → is_part ls (x ∷ xs) ≡ true
part_past [] x xs tail is = refl
part_past (m ∷ ms) x xs tail is = elim (cases_Bool (same m (Plus x))) [
  | inl here ↦ rw here (tail m ms is)
  | inr other ↦ rw other is
]

part_tail : (l : Literal) (ls : List Literal) (xs : List ℕ) → is_part (l ∷ ls) xs ≡ true → is_part ls xs ≡ true
part_tail l ls [] is = absurd (false≢true is)
part_tail l ls (x ∷ xs) is = elim (cases_Bool (same l (Plus x))) [
  | inl here ↦ part_past ls x xs (λ m ms. part_tail m ms xs) (rw here at is)
  | inr other ↦ part_past ls x xs (λ m ms. part_tail m ms xs) (part_tail l ls xs (rw other at is))
]

-- an input that is left out
pub part_skip : (ls : List Literal) (x : ℕ) (xs : List ℕ) → is_part ls xs ≡ true → is_part ls (x ∷ xs) ≡ true
part_skip ls x xs is = part_past ls x xs (λ m ms. part_tail m ms xs) is

-- an input that is taken
pub part_take : (ls : List Literal) (x : ℕ) (xs : List ℕ) → is_part ls xs ≡ true → is_part (Plus x ∷ ls) (x ∷ xs) ≡ true
part_take ls x xs is = rw (eq-eqb x x refl) is

first_left : {A : Type 0} (xs : List A) (i : ℕ) (d : A) → i < length xs → drop i xs ≡ get_or xs i d ∷ drop (i + 1) xs
first_left {A} xs i d inside = rw (add-one i) (drop-cons xs i d inside)

pub skip_step : (lits : List Literal) (inputs : List ℕ) (done i : ℕ) → i < length inputs → (is_part (drop done lits) (drop i inputs) ≡ true → is_part lits inputs ≡ true) → is_part (drop done lits) (drop (i + 1) inputs) ≡ true → is_part lits inputs ≡ true
skip_step lits inputs done i inside before is =
    let rest : drop i inputs ≡ get_or inputs i 0 ∷ drop (i + 1) inputs = first_left inputs i 0 inside in
    before (subst (λ xs. is_part (drop done lits) xs ≡ true) (sym rest) (part_skip (drop done lits) (get_or inputs i 0) (drop (i + 1) inputs) is))

pub take_step : (lits : List Literal) (inputs : List ℕ) (done i : ℕ) → i < length inputs → done < length lits → (l : Literal) → l ≡ get_or lits done l → l ≡ Plus (get_or inputs i 0) → (is_part (drop done lits) (drop i inputs) ≡ true → is_part lits inputs ≡ true) → is_part (drop (done + 1) lits) (drop (i + 1) inputs) ≡ true → is_part lits inputs ≡ true
take_step lits inputs done i inside within l at plus before is =
    let rest : drop i inputs ≡ get_or inputs i 0 ∷ drop (i + 1) inputs = first_left inputs i 0 inside in
    let left : drop done lits ≡ get_or lits done l ∷ drop (done + 1) lits = first_left lits done l within in
    let taken : drop done lits ≡ Plus (get_or inputs i 0) ∷ drop (done + 1) lits = left ∙ ap (λ (m : Literal). m ∷ drop (done + 1) lits) (sym at ∙ plus) in
    before (subst (λ xs. is_part (drop done lits) xs ≡ true) (sym rest) (subst (λ ls. is_part ls (get_or inputs i 0 ∷ drop (i + 1) inputs) ≡ true) (sym taken) (part_take (drop (done + 1) lits) (get_or inputs i 0) (drop (i + 1) inputs) is)))
