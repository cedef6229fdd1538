-- What is found in the words of sets, one after another.
use Rattle.std.proofs.Common.{◌≡◌, ℕ, ◌+◌, ◌-◌, ◌*◌, ◌/◌, ◌%◌, ◌^◌, ◌<◌, ◌≤◌, ◌==◌, Bool, true, false, not, List, refl, sym, ◌∙◌, ap, ap₂, subst, arith, inl, inr, get_or, w64, bit_and}
use mathlib.Core.Path.{fun_ext}
use Rattle.std.specs.Int.{bit_at, bit_not, trailing_zeros}
use Rattle.std.proofs.lemmas.Bool.{cases_Bool, cases_lt, both_ways, and_from, and_parts, eqb-true, eq-eqb}
use Rattle.std.proofs.lemmas.Nat.{shr-shr, and_le_l}
use Rattle.std.proofs.lemmas.Nat.Bits.{bit_at-lt, bit_at-trailing_zeros, bit_at_above, same_from_bits_below}
use Rattle.fbas_model.specs.Nodes.{Nodes, Table, members, ◌∈◌, ◌⊆◌, ∅, Meets, IsInhabited, HasNoneFrom, IsLeastFrom}
use Rattle.fbas_model.specs.Restriction.{table_from}
use Rattle.name_set.specs.Words.{bit, set_of, table_of, AreWordsOf}
use Rattle.name_set.proofs.WordLaws.{bit-zero, bit-and, bit-without, same-members}
use Rattle.name_set.proofs.WordMixes.{without}

-- ---- a word that is not 0

-- its lowest bit that is set
pub record IsLowest (x j : ℕ) : Type 0 where
  pub below : j < 64
  pub set : bit x j ≡ true
  pub others : (i : ℕ) → i < j → bit x i ≡ false

pub lowest : (x : ℕ) → (x ≡ 0 → ⊥) → x < 2 ^ 64 → IsLowest x (trailing_zeros w64 x)
lowest x some fits =
    let h = bit_at-trailing_zeros w64 x (omega arith) fits in
    record { below = h.0; set = ap (λ b. b == 1) h.1; others = λ i l. ap (λ b. b == 1) (h.2 i l) }

-- the bit of a number in its word
pub set_of-at : (words : List ℕ) (i j : ℕ) → j < 64 → set_of words (64 * i + j) ≡ bit (get_or words i 0) j
unfolding set_of
set_of-at words i j low =
    let word : (64 * i + j) / 64 ≡ i = omega arith in
    let place : (64 * i + j) % 64 ≡ j = omega arith in
    ap₂ (λ (k l : ℕ). bit (get_or words k 0) l) word place

pub set_of-split : (words : List ℕ) (v : ℕ) → set_of words v ≡ bit (get_or words (v / 64) 0) (v % 64)
unfolding set_of
set_of-split words v = refl

-- a number in a word that is 0 is not in the set
set_of-zero : (words : List ℕ) (v : ℕ) → get_or words (v / 64) 0 ≡ 0 → set_of words v ≡ false
set_of-zero words v none = set_of-split words v ∙ ap (λ (x : ℕ). bit x (v % 64)) none ∙ bit-zero (v % 64)

not-both : (b : Bool) → b ≡ true → b ≡ false → ⊥
not-both b here there = both_ways b there here

-- ---- two sets

module _ (size n m : ℕ) (a b : List ℕ) (t u : Table) (mine : AreWordsOf size n a) (theirs : AreWordsOf size m b) (d : table_of n a ≡ t) (e : table_of m b ≡ u) where
  shared_by_words : Meets (set_of a) (set_of b) → Meets (members t) (members u)
  shared_by_words h = subst (λ (s : Nodes). Meets s (members u)) (sym (same-members size n a t mine d)) (subst (λ (s : Nodes). Meets (set_of a) s) (sym (same-members size m b u theirs e)) h)

  shared_in_words : Meets (members t) (members u) → Meets (set_of a) (set_of b)
  shared_in_words h = subst (λ (s : Nodes). Meets (set_of a) s) (same-members size m b u theirs e) (subst (λ (s : Nodes). Meets s (members u)) (same-members size n a t mine d) h)

  -- words with a bit in common
  pub meets_here : (i : ℕ) → (bit_and (get_or a i 0) (get_or b i 0) ≡ 0 → ⊥) → get_or a i 0 < 2 ^ 64 → Meets (members t) (members u)
  meets_here i some fits =
      let x = bit_and (get_or a i 0) (get_or b i 0) in
      let j = trailing_zeros w64 x in
      let low = lowest x some (omega (arith, and_le_l (get_or a i 0) (get_or b i 0))) in
      let both = and_parts (bit (get_or a i 0) j) (bit (get_or b i 0) j) (sym (bit-and (get_or a i 0) (get_or b i 0) j) ∙ low.set) in
      shared_by_words (64 * i + j, set_of-at a i j low.below ∙ both.0, set_of-at b i j low.below ∙ both.1)

  -- words with none, as far as the set goes
  pub meets_nowhere : (i : ℕ) → n ≤ 64 * i → ((k : ℕ) → k < i → bit_and (get_or a k 0) (get_or b k 0) ≡ 0) → Meets (members t) (members u) → ⊥
  meets_nowhere i all none h =
      let m = shared_in_words h in
      let v = m.0 in
      elim (cases_lt (v / 64) i) [
        | inl low ↦
            let both = bit-and (get_or a (v / 64) 0) (get_or b (v / 64) 0) (v % 64) ∙ and_from (bit (get_or a (v / 64) 0) (v % 64)) (bit (get_or b (v / 64) 0) (v % 64)) (sym (set_of-split a v) ∙ m.1) (sym (set_of-split b v) ∙ m.2) in
            both_ways (bit 0 (v % 64)) (bit-zero (v % 64)) (sym (ap (λ (x : ℕ). bit x (v % 64)) (none (v / 64) low)) ∙ both)
        | inr high ↦ not-both (set_of a v) m.1 (mine.clear v (omega arith))
      ]

  -- a word with a bit that the other lacks
  pub outside_here : (i : ℕ) → (without (get_or a i 0) (get_or b i 0) ≡ 0 → ⊥) → get_or a i 0 < 2 ^ 64 → get_or b i 0 < 2 ^ 64 → members t ⊆ members u → ⊥
  outside_here i some fits others h =
      let x = without (get_or a i 0) (get_or b i 0) in
      let j = trailing_zeros w64 x in
      let low = lowest x some (omega (arith, and_le_l (get_or a i 0) (bit_not w64 (get_or b i 0)))) in
      let both = and_parts (bit (get_or a i 0) j) (not (bit (get_or b i 0) j)) (sym (bit-without (get_or a i 0) (get_or b i 0) j others low.below) ∙ low.set) in
      let here : (64 * i + j) ∈ members t = ap (λ (s : Nodes). s (64 * i + j)) (same-members size n a t mine d) ∙ set_of-at a i j low.below ∙ both.0 in
      let there : bit (get_or b i 0) j ≡ true = sym (set_of-at b i j low.below) ∙ sym (ap (λ (s : Nodes). s (64 * i + j)) (same-members size m b u theirs e)) ∙ h (64 * i + j) here in
      both_ways (not (bit (get_or b i 0) j)) (ap not there) both.1

  -- none, as far as the set goes
  pub outside_nowhere : (i : ℕ) → n ≤ 64 * i → ((k : ℕ) → k < i → without (get_or a k 0) (get_or b k 0) ≡ 0) → ((k : ℕ) → k < i → get_or b k 0 < 2 ^ 64) → members t ⊆ members u
  outside_nowhere i all none read v h =
      let is : set_of a v ≡ true = sym (ap (λ (s : Nodes). s v) (same-members size n a t mine d)) ∙ h in
      elim (cases_lt (v / 64) i) [
        | inl low ↦ elim (cases_Bool (set_of b v)) [
          | inl there ↦ ap (λ (s : Nodes). s v) (same-members size m b u theirs e) ∙ there
          | inr out ↦
              let x = get_or a (v / 64) 0 in
              let y = get_or b (v / 64) 0 in
              let left = bit-without x y (v % 64) (read (v / 64) low) (omega arith) ∙ and_from (bit x (v % 64)) (not (bit y (v % 64))) (sym (set_of-split a v) ∙ is) (ap not (sym (set_of-split b v) ∙ out)) in
              absurd (both_ways (bit 0 (v % 64)) (bit-zero (v % 64)) (sym (ap (λ (z : ℕ). bit z (v % 64)) (none (v / 64) low)) ∙ left))
        ]
        | inr high ↦ absurd (not-both (set_of a v) is (mine.clear v (omega arith)))
      ]

  -- words that differ
  pub differ_here : (i : ℕ) → (get_or a i 0 ≡ get_or b i 0 → ⊥) → get_or a i 0 < 2 ^ 64 → get_or b i 0 < 2 ^ 64 → t ≡ u → ⊥
  differ_here i apart mine_fits theirs_fits same =
      let sets : set_of a ≡ set_of b = sym (same-members size n a t mine d) ∙ ap members same ∙ same-members size m b u theirs e in
      apart (same_from_bits_below 64 (get_or a i 0) (get_or b i 0) mine_fits theirs_fits (λ j low. same_digit (bit_at (get_or a i 0) j) (bit_at (get_or b i 0) j) (bit_at-lt (get_or a i 0) j) (bit_at-lt (get_or b i 0) j) (sym (set_of-at a i j low) ∙ ap (λ (s : Nodes). s (64 * i + j)) sets ∙ set_of-at b i j low)))
    where
      same_digit : (x y : ℕ) → x < 2 → y < 2 → (x == 1) ≡ (y == 1) → x ≡ y
      same_digit x y p q h = elim (cases_Bool (x == 1)) [
        | inl k ↦ eqb-true x 1 k ∙ sym (eqb-true y 1 (sym h ∙ k))
        | inr k ↦
            let left = λ (z : x ≡ 1). both_ways (x == 1) k (eq-eqb x 1 z) in
            let right = λ (z : y ≡ 1). both_ways (y == 1) (sym h ∙ k) (eq-eqb y 1 z) in
            omega (arith, left, right)
      ]

  -- words that are the same, as far as the sets go
  pub differ_nowhere : m ≡ n → (i : ℕ) → n ≤ 64 * i → ((k : ℕ) → k < i → get_or a k 0 ≡ get_or b k 0) → t ≡ u
  unfolding table_of
  differ_nowhere same_n i all same =
      let sets : set_of a ≡ set_of b = fun_ext (λ v. elim (cases_lt (v / 64) i) [
        | inl low ↦ set_of-split a v ∙ ap (λ (x : ℕ). bit x (v % 64)) (same (v / 64) low) ∙ sym (set_of-split b v)
        | inr high ↦ mine.clear v (omega arith) ∙ sym (theirs.clear v (omega arith))
      ]) in
      sym d ∙ ap₂ table_from_both (sym same_n) sets ∙ e
    where
      table_from_both : ℕ → Nodes → Table
      table_from_both k s = table_from 0 k s

-- ---- one set

module _ (size n : ℕ) (a : List ℕ) (t : Table) (are : AreWordsOf size n a) (d : table_of n a ≡ t) where
  -- a word with a bit
  pub inhabited_here : (i : ℕ) → (get_or a i 0 ≡ 0 → ⊥) → get_or a i 0 < 2 ^ 64 → IsInhabited (members t)
  inhabited_here i some fits =
      let j = trailing_zeros w64 (get_or a i 0) in
      let low = lowest (get_or a i 0) some fits in
      (64 * i + j, ap (λ (s : Nodes). s (64 * i + j)) (same-members size n a t are d) ∙ set_of-at a i j low.below ∙ low.set)

  -- the least number from that of a word's first bit on
  pub least_here : (from i : ℕ) → from ≤ i → ((k : ℕ) → from ≤ k → k < i → get_or a k 0 ≡ 0) → (get_or a i 0 ≡ 0 → ⊥) → get_or a i 0 < 2 ^ 64 → IsLeastFrom (members t) (64 * from) (64 * i + trailing_zeros w64 (get_or a i 0))
  least_here from i after none some fits =
      let x = get_or a i 0 in
      let j = trailing_zeros w64 x in
      let low = lowest x some fits in
      let s = same-members size n a t are d in (
        omega arith,
        ap (λ (r : Nodes). r (64 * i + j)) s ∙ set_of-at a i j low.below ∙ low.set,
        λ w above is.
            let at : set_of a w ≡ true = sym (ap (λ (r : Nodes). r w) s) ∙ is in
            elim (cases_lt w (64 * i + j)) [
              | inr le ↦ le
              | inl lt ↦ elim (cases_lt (w / 64) i) [
                | inl early ↦ absurd (not-both (set_of a w) at (set_of-zero a w (none (w / 64) (omega arith) early)))
                | inr here ↦
                    let same : w / 64 ≡ i = omega arith in
                    absurd (not-both (set_of a w) at (set_of-split a w ∙ ap (λ (k : ℕ). bit (get_or a k 0) (w % 64)) same ∙ low.others (w % 64) (omega arith)))
              ]
            ],
      )

  -- there is none where the words are 0 as far as the set goes
  pub least_nowhere : (from i : ℕ) → n ≤ 64 * i → ((k : ℕ) → from ≤ k → k < i → get_or a k 0 ≡ 0) → HasNoneFrom (members t) (64 * from)
  least_nowhere from i all none w above =
      ap (λ (r : Nodes). r w) (same-members size n a t are d) ∙ elim (cases_lt (w / 64) i) [
        | inl low ↦ set_of-zero a w (none (w / 64) (omega arith) low)
        | inr high ↦ are.clear w (omega arith)
      ]

  -- all words are 0 as far as the set goes
  pub inhabited_nowhere : (i : ℕ) → n ≤ 64 * i → ((k : ℕ) → k < i → get_or a k 0 ≡ 0) → members t ≡ ∅
  inhabited_nowhere i all none = fun_ext (λ w. least_nowhere 0 i all (λ k _ h. none k h) w (omega arith))

  -- ---- the rest of a word

  rest_bit : (x k j : ℕ) → bit (x / 2 ^ k) j ≡ bit x (k + j)
  rest_bit x k j = ap (λ y. y % 2 == 1) (shr-shr x k j)

  -- the least number is found in the rest of its word
  pub least_in_rest : (at : ℕ) → (get_or a (at / 64) 0 / 2 ^ (at % 64) ≡ 0 → ⊥) → get_or a (at / 64) 0 < 2 ^ 64 → get_or a (at / 64) 0 / 2 ^ (at % 64) < 2 ^ 64 → IsLeastFrom (members t) at (at + trailing_zeros w64 (get_or a (at / 64) 0 / 2 ^ (at % 64)))
  least_in_rest at some fits rest_fits =
      let i = at / 64 in
      let k = at % 64 in
      let x = get_or a i 0 in
      let rest = x / 2 ^ k in
      let j = trailing_zeros w64 rest in
      let low = lowest rest some rest_fits in
      let s = same-members size n a t are d in
      let here : bit x (k + j) ≡ true = sym (rest_bit x k j) ∙ low.set in
      let inside : k + j < 64 = elim (cases_lt (k + j) 64) [ inl lt ↦ lt | inr le ↦ absurd (not-both (bit x (k + j)) here (ap (λ b. b == 1) (bit_at_above x 64 (k + j) fits le))) ] in
      let place : at + j ≡ 64 * i + (k + j) = omega arith in (
        omega arith,
        ap (λ (r : Nodes). r (at + j)) s ∙ ap (set_of a) place ∙ set_of-at a i (k + j) inside ∙ here,
        λ w above is.
            let is_set : set_of a w ≡ true = sym (ap (λ (r : Nodes). r w) s) ∙ is in
            elim (cases_lt w (at + j)) [
              | inr le ↦ le
              | inl lt ↦
                  let word : w / 64 ≡ i = omega arith in
                  let bit_is : w % 64 ≡ k + (w - at) = omega arith in
                  absurd (not-both (set_of a w) is_set (set_of-split a w ∙ ap₂ (λ (y z : ℕ). bit (get_or a y 0) z) word bit_is ∙ sym (rest_bit x k (w - at)) ∙ low.others (w - at) (omega arith)))
            ],
      )

  -- there is none in a rest that is 0
  none_in_rest : (at w : ℕ) → get_or a (at / 64) 0 / 2 ^ (at % 64) ≡ 0 → at ≤ w → w < 64 * (at / 64 + 1) → members t w ≡ false
  none_in_rest at w none above below =
      let word : w / 64 ≡ at / 64 = omega arith in
      let bit_is : w % 64 ≡ at % 64 + (w - at) = omega arith in
      ap (λ (r : Nodes). r w) (same-members size n a t are d) ∙ set_of-split a w ∙ ap₂ (λ (y z : ℕ). bit (get_or a y 0) z) word bit_is
      ∙ sym (rest_bit (get_or a (at / 64) 0) (at % 64) (w - at)) ∙ ap (λ (y : ℕ). bit y (w - at)) none ∙ bit-zero (w - at)

  -- so that it is the least one in the words after it
  pub least_behind : (at v : ℕ) → get_or a (at / 64) 0 / 2 ^ (at % 64) ≡ 0 → IsLeastFrom (members t) (64 * (at / 64 + 1)) v → IsLeastFrom (members t) at v
  least_behind at v none least = (
    omega (arith, least.0),
    least.1,
    λ w above is. elim (cases_lt w (64 * (at / 64 + 1))) [
      | inl lt ↦ absurd (not-both (members t w) is (none_in_rest at w none above lt))
      | inr le ↦ least.2 w le is
    ],
  )

  pub none_behind : (at : ℕ) → get_or a (at / 64) 0 / 2 ^ (at % 64) ≡ 0 → HasNoneFrom (members t) (64 * (at / 64 + 1)) → HasNoneFrom (members t) at
  none_behind at none behind w above = elim (cases_lt w (64 * (at / 64 + 1))) [
    | inl lt ↦ none_in_rest at w none above lt
    | inr le ↦ behind w le
  ]
