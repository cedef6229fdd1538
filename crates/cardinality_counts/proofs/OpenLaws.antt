-- So few of a set's literals are false that its clause is open.
use Rattle.std.proofs.Common.{◌≡◌, ◌≢◌, ℕ, ◌+◌, ◌<◌, ◌≤◌, Bool, true, false, not, cond, List, [], ◌∷◌, length, get_or, filter, ⊎_elim, inl, inr, refl, sym, ◌∙◌, subst, arith}
use Rattle.std.specs.Prelude.{◌⊎◌, AllPairs}
use Rattle.std.proofs.lemmas.Bool.{true≢false, or_parts, not-true}
use Rattle.std.proofs.lemmas.List.Filters.{length-filter_both}
use Rattle.lrat_model.specs.Literal.{Literal, Plus, Minus, negated, same, has}
use Rattle.lrat_model.proofs.Literals.{has-first, has-rest, has-filter}
use Rattle.cardinality_counts.specs.Gates.{IsOpen, is_part, has_number}
use Rattle.cardinality_counts.specs.declared.gate.Gate.{Gate}
use Rattle.cardinality_counts.proofs.Tallies.{IsDistinct}
use Rattle.cardinality_counts.proofs.PartLaws.{IsInput, place_of, part_inputs, part_distinct}

-- P holds of the first numbers, this many
abbrev pub AllBefore : (ℕ → Type 0) → List ℕ → ℕ → Type 0
AllBefore P xs n = (i d : ℕ) → i < n → i < length xs → P (get_or xs i d)

-- and so of each number
pub of_each : (P : ℕ → Type 0) (xs : List ℕ) (n : ℕ) → AllBefore P xs n → length xs ≤ n → (x : ℕ) → has_number xs x ≡ true → P x
of_each P xs n before end x there =
    let at : (i : ℕ) × (i < length xs) × (get_or xs i x ≡ x) = place_of xs x there in
    subst P at.2 (before at.0 x (omega (arith, at.1, end)) at.1)

-- the literals that are not false
abbrev pub not_false : List Literal → List Literal → List Literal
not_false trues set = filter (λ l. not (has trues (negated l))) set

not_false_parts : (trues set : List Literal) (l : Literal) → has (not_false trues set) l ≡ true → (has set l ≡ true) × (has trues (negated l) ≡ false)
not_false_parts trues set l there =
    let parts : (has set l ≡ true) × (not (has trues (negated l)) ≡ true) = has-filter (λ k. not (has trues (negated k))) set l there in
    (parts.0, not-true (has trues (negated l)) parts.1)

how_many : (trues set : List Literal) → length (filter (λ l. has trues (negated l)) set) + length (not_false trues set) ≡ length set
how_many trues set = length-filter_both (λ l. has trues (negated l)) (λ l. not (has trues (negated l))) (λ l. refl) set

distinct-filter : (p : Literal → Bool) (set : List Literal) → IsDistinct set → IsDistinct (filter p set)
distinct-filter p [] distinct = tt
distinct-filter p (l ∷ ls) distinct =
    elim (p l) as (λ b. IsDistinct (cond b (l ∷ filter p ls) (filter p ls))) [
      | true ↦ (fresh, distinct-filter p ls distinct.1)
      | false ↦ distinct-filter p ls distinct.1
    ]
  where
    fresh : has (filter p ls) l ≡ false
    fresh = elim (has (filter p ls) l) as (λ b. has (filter p ls) l ≡ b → b ≡ false) [
      | true ↦ λ there. absurd (true≢false (sym (has-filter p ls l there).0 ∙ distinct.0))
      | false ↦ λ _. refl
    ] refl

first_of : (ls : List Literal) → 0 < length ls → (l : Literal) × (has ls l ≡ true)
first_of [] some = absurd (omega (arith, some))
first_of (l ∷ ls) some = (l, has-first l ls)

two_of : (ls : List Literal) → IsDistinct ls → 1 < length ls → (l m : Literal) × (has ls l ≡ true) × (has ls m ≡ true) × (same l m ≡ false)
two_of [] distinct some = absurd (omega (arith, some))
two_of (l ∷ []) distinct some = absurd (omega (arith, some))
two_of (l ∷ m ∷ ls) distinct some = (l, m, has-first l (m ∷ ls), has-rest l m (m ∷ ls) (has-first m ls), (or_parts (same l m) (has ls l) distinct.0).0)

-- where the head is false
pub open_denied : (trues set : List Literal) (head : ℕ) → has trues (Minus head) ≡ true → IsOpen trues (Minus head ∷ set)
open_denied trues set head is = inl (Minus head, has-first (Minus head) set, is)

module _ (trues set : List Literal) (gate : Gate) (falses : ℕ) (apart : AllPairs (λ x y. x ≢ y) gate.inputs.items) (part : is_part set gate.inputs.items ≡ true) (long : length set ≡ gate.size) (few : length (filter (λ l. has trues (negated l)) set) ≤ falses) where
  -- where all but two are not false
  pub open_two : falses + 2 ≤ gate.size → IsOpen trues (Minus gate.head ∷ set)
  open_two fewer =
      let two = two_of (not_false trues set) (distinct-filter (λ l. not (has trues (negated l))) set (part_distinct gate.inputs.items set apart part)) (omega (arith, how_many trues set, long, few, fewer)) in
      let one : (has set two.0 ≡ true) × (has trues (negated two.0) ≡ false) = not_false_parts trues set two.0 two.2 in
      let other : (has set two.1 ≡ true) × (has trues (negated two.1) ≡ false) = not_false_parts trues set two.1 two.3 in
      inr (two.0, two.1, has-rest (Minus gate.head) two.0 set one.0, has-rest (Minus gate.head) two.1 set other.0, two.4, one.1, other.1)

  one_left : falses < gate.size → (l : Literal) × (has set l ≡ true) × (has trues (negated l) ≡ false)
  one_left fewer =
      let first : (l : Literal) × (has (not_false trues set) l ≡ true) = first_of (not_false trues set) (omega (arith, how_many trues set, long, few, fewer)) in
      let parts : (has set first.0 ≡ true) × (has trues (negated first.0) ≡ false) = not_false_parts trues set first.0 first.1 in
      (first.0, parts.0, parts.1)

  -- where one is not false, and the head is not true
  pub open_head : falses < gate.size → has trues (Plus gate.head) ≡ false → IsOpen trues (Minus gate.head ∷ set)
  open_head fewer free =
      let left = one_left fewer in
      let input : IsInput gate.inputs.items left.0 = part_inputs gate.inputs.items set part left.0 left.1 in
      inr (left.0, Minus gate.head, has-rest (Minus gate.head) left.0 set left.1, has-first (Minus gate.head) set, subst (λ l. same l (Minus gate.head) ≡ false) (sym input.1) refl, left.2, free)

  -- where one is not false, and none open
  pub open_valued : falses < gate.size → ((x : ℕ) → has_number gate.inputs.items x ≡ true → (has trues (Plus x) ≡ true) ⊎ (has trues (Minus x) ≡ true)) → IsOpen trues (Minus gate.head ∷ set)
  open_valued fewer valued =
      let left = one_left fewer in
      let input : IsInput gate.inputs.items left.0 = part_inputs gate.inputs.items set part left.0 left.1 in
      let free : has trues (Minus input.0) ≡ false = subst (λ l. has trues (negated l) ≡ false) input.1 left.2 in
      inl (
        left.0,
        has-rest (Minus gate.head) left.0 set left.1,
        ⊎_elim (λ is. subst (λ l. has trues l ≡ true) (sym input.1) is) (λ denied. absurd (true≢false (sym denied ∙ free))) (valued input.0 input.2),
      )
