-- Words that are filled, one after another, up to the last number.
use Rattle.std.proofs.Common.{◌≡◌, ℕ, ◌-◌, ◌*◌, ◌/◌, ◌%◌, ◌^◌, ◌<◌, ◌≤◌, ◌==◌, true, false, ltb, List, length, sym, ◌∙◌, ap, arith, inl, inr, get_or, set}
use mathlib.Core.Path.{fun_ext}
use Rattle.std.proofs.lemmas.Bool.{cases_Bool, cases_lt, both_ways, eqb-true, eq-eqb, lt-ltb, ltb-true, false_from_ne_true}
use Rattle.std.proofs.lemmas.Nat.{one_shl}
use Rattle.std.proofs.lemmas.Nat.Bits.{bit_at_ones, bit_at_ones_above}
use Rattle.fbas_model.specs.Nodes.{members}
use Rattle.name_set.specs.Words.{bit, set_of, table_of, AreWordsOf}
use Rattle.name_set.proofs.WordLaws.{set_of-same, set_of-other, known_words, members-known}

-- the words below i are full, and the others stand as they were
pub record Filled (before now : List ℕ) (i : ℕ) : Type 0 where
  pub done : (k : ℕ) → k < i → get_or now k 0 ≡ 2 ^ 64 - 1
  pub ahead : (k : ℕ) → i ≤ k → get_or now k 0 ≡ get_or before k 0

-- the last word with as many ones as there are numbers left
abbrev pub words_ended : List ℕ → ℕ → List ℕ
words_ended words n = set words (n / 64) (1 * 2 ^ (n % 64) % 2 ^ 64 - 1)

lower : (n v : ℕ) → v < n → true ≡ ltb v n
lower n v h = sym (lt-ltb v n h)

upper : (n v : ℕ) → n ≤ v → false ≡ ltb v n
upper n v h = sym (false_from_ne_true (ltb v n) (λ k. let l = ltb-true v n k in absurd (omega arith)))

-- the ones of a word below a place
ones_below : (r i : ℕ) → bit (2 ^ r - 1) i ≡ ltb i r
ones_below r i = elim (cases_lt i r) [
  | inl low ↦ ap (λ x. x == 1) (bit_at_ones r i low) ∙ lower r i low
  | inr high ↦ ap (λ x. x == 1) (bit_at_ones_above r i high) ∙ upper r i high
]

module _ (size n : ℕ) (before now : List ℕ) (are : AreWordsOf size n before) (filled : Filled before now (n / 64)) where
  filled-low : (v : ℕ) → v / 64 < n / 64 → set_of now v ≡ true
  unfolding set_of
  filled-low v low = ap (λ (w : ℕ). bit w (v % 64)) (filled.done (v / 64) low) ∙ ap (λ x. x == 1) (bit_at_ones 64 (v % 64) (omega arith))

  filled-high : (v : ℕ) → n / 64 ≤ v / 64 → set_of now v ≡ set_of before v
  unfolding set_of
  filled-high v high = ap (λ (w : ℕ). bit w (v % 64)) (filled.ahead (v / 64) high)

  -- where the last word is full too
  whole : n % 64 ≡ 0 → set_of now ≡ (λ v. ltb v n)
  whole none = fun_ext (λ v. elim (cases_lt (v / 64) (n / 64)) [
    | inl low ↦ filled-low v low ∙ lower n v (omega arith)
    | inr high ↦ let above : n ≤ v = omega arith in filled-high v high ∙ are.clear v above ∙ upper n v above
  ])

  -- where it is not
  ended : n / 64 < length now → set_of (words_ended now n) ≡ (λ v. ltb v n)
  ended within = fun_ext (λ v. elim (cases_Bool (v / 64 == n / 64)) [
    | inl k ↦
        let e = eqb-true (v / 64) (n / 64) k in
        set_of-same now (n / 64) (1 * 2 ^ (n % 64) % 2 ^ 64 - 1) v within e ∙ ap (λ x. bit (x - 1) (v % 64)) (one_shl (n % 64) 64 (omega arith)) ∙ ones_below (n % 64) (v % 64)
        ∙ same_order v e
    | inr k ↦
        let ne = λ (e : v / 64 ≡ n / 64). both_ways (v / 64 == n / 64) k (eq-eqb (v / 64) (n / 64) e) in
        set_of-other now (n / 64) (1 * 2 ^ (n % 64) % 2 ^ 64 - 1) v ne ∙ elim (cases_lt (v / 64) (n / 64)) [
          | inl low ↦ filled-low v low ∙ lower n v (omega arith)
          | inr high ↦ let above : n ≤ v = omega (arith, ne) in filled-high v high ∙ are.clear v above ∙ upper n v above
        ]
  ])
    where
      same_order : (v : ℕ) → v / 64 ≡ n / 64 → ltb (v % 64) (n % 64) ≡ ltb v n
      same_order v e = elim (cases_lt v n) [
        | inl low ↦ sym (lower (n % 64) (v % 64) (omega arith)) ∙ lower n v low
        | inr high ↦ sym (upper (n % 64) (v % 64) (omega arith)) ∙ upper n v high
      ]

  pub whole_words : n % 64 ≡ 0 → AreWordsOf size n now
  whole_words none = known_words size n before now (λ v. ltb v n) are (whole none) (λ v high. sym (upper n v high))

  pub ended_words : n / 64 < length now → AreWordsOf size n (words_ended now n)
  ended_words within = known_words size n before (words_ended now n) (λ v. ltb v n) are (ended within) (λ v high. sym (upper n v high))

  pub members-whole : n % 64 ≡ 0 → members (table_of n now) ≡ (λ v. ltb v n)
  members-whole none = members-known size n now (λ v. ltb v n) (whole_words none) (whole none)

  pub members-ended : n / 64 < length now → members (table_of n (words_ended now n)) ≡ (λ v. ltb v n)
  members-ended within = members-known size n (words_ended now n) (λ v. ltb v n) (ended_words within) (ended within)
