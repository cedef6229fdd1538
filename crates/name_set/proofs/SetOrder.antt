-- The order of sets, by the first number that stands in one of them alone.
use Rattle.std.proofs.Common.{◌≡◌, ℕ, zero, suc, ◌==◌, ◌+◌, ◌*◌, ◌/◌, ◌%◌, ◌^◌, ◌<◌, ◌≤◌, true, false, List, drop, refl, sym, ◌∙◌, ap, ap₂, subst, arith, inl, inr, get_or, w64, Less, Equal, Greater}
use Rattle.std.specs.Ordering.{nat_cmp}
use Rattle.std.specs.Cmp.Lexicographic.{slice_cmp}
use Rattle.std.specs.Int.{bit_at, trailing_zeros}
use Rattle.std.proofs.lemmas.Nat.Bits.{bit_at-lt, bit_at_xor}
use Rattle.std.specs.Int.RustNames.{bit_xor}
use Rattle.std.proofs.lemmas.Bool.{cases_Bool, cases_lt}
use Rattle.fbas_model.specs.Nodes.{Nodes, Table, members, HasNoneFrom, IsLeastFrom, listed_from, set_cmp}
use Rattle.fbas_model.proofs.Listed.{listed_nowhere, listed_next, set_cmp-from, set_cmp-same, cmp_first}
use Rattle.name_set.specs.Words.{bit, set_of, table_of, AreWordsOf, PartAt}
use Rattle.name_set.proofs.WordLaws.{bit-zero, same-members}
use Rattle.name_set.proofs.WordFinds.{lowest, set_of-at, set_of-split}

-- ---- by the least numbers from that one on

module _ (s t : Table) (at : ℕ) (part : PartAt (members s) (members t) at) where
  rest : set_cmp s t ≡ slice_cmp nat_cmp (listed_from at (drop at s)) (listed_from at (drop at t))
  rest = set_cmp-from at s t part.same

  -- they are not the same
  apart : (x y : ℕ) → IsLeastFrom (members s) at x → IsLeastFrom (members t) at y → x ≡ y → ⊥
  apart x y p q same = elim (cases_Bool (members s at)) [
    | inl here ↦
        let first : x ≡ at = omega (arith, p.0, p.2 at (omega arith) here) in
        let there : members t at ≡ true = subst (λ (k : ℕ). members t k ≡ true) (sym same ∙ first) q.1 in
        part.apart (here ∙ sym there)
    | inr out ↦ elim (cases_Bool (members t at)) [
      | inl there ↦
          let first : y ≡ at = omega (arith, q.0, q.2 at (omega arith) there) in
          let here : members s at ≡ true = subst (λ (k : ℕ). members s k ≡ true) (same ∙ first) p.1 in
          part.apart (here ∙ sym there)
      | inr gone ↦ part.apart (out ∙ sym gone)
    ]
  ]

  pub by_both : (x y : ℕ) → IsLeastFrom (members s) at x → IsLeastFrom (members t) at y → nat_cmp x y ≡ set_cmp s t
  by_both x y p q =
      sym (rest ∙ ap₂ (λ (a b : List ℕ). slice_cmp nat_cmp a b) (listed_next at x s p) (listed_next at y t q) ∙ cmp_first x y (listed_from (x + 1) (drop (x + 1) s)) (listed_from (y + 1) (drop (y + 1) t)) (apart x y p q))

  pub by_one : (x : ℕ) → IsLeastFrom (members s) at x → HasNoneFrom (members t) at → Greater ≡ set_cmp s t
  by_one x p none = sym (rest ∙ ap₂ (λ (a b : List ℕ). slice_cmp nat_cmp a b) (listed_next at x s p) (listed_nowhere at t none))

  pub by_other : (y : ℕ) → HasNoneFrom (members s) at → IsLeastFrom (members t) at y → Less ≡ set_cmp s t
  by_other y none q = sym (rest ∙ ap₂ (λ (a b : List ℕ). slice_cmp nat_cmp a b) (listed_nowhere at s none) (listed_next at y t q))

  pub by_none : HasNoneFrom (members s) at → HasNoneFrom (members t) at → Equal ≡ set_cmp s t
  by_none p q = sym (rest ∙ ap₂ (λ (a b : List ℕ). slice_cmp nat_cmp a b) (listed_nowhere at s p) (listed_nowhere at t q))

-- ---- by their words

digit_xor-same : (x y : ℕ) → x < 2 → y < 2 → ((x + y) % 2 == 1) ≡ false → (x == 1) ≡ (y == 1)
digit_xor-same zero zero p q h = refl
digit_xor-same zero (suc zero) p q h = absurd cc
digit_xor-same (suc zero) zero p q h = absurd cc
digit_xor-same (suc zero) (suc zero) p q h = refl
digit_xor-same (suc (suc x)) y p q h = absurd (omega arith)
digit_xor-same zero (suc (suc y)) p q h = absurd (omega arith)
digit_xor-same (suc zero) (suc (suc y)) p q h = absurd (omega arith)

digit_xor-apart : (x y : ℕ) → x < 2 → y < 2 → ((x + y) % 2 == 1) ≡ true → (x == 1) ≡ (y == 1) → ⊥
digit_xor-apart zero zero p q h e = cc
digit_xor-apart zero (suc zero) p q h e = cc
digit_xor-apart (suc zero) zero p q h e = cc
digit_xor-apart (suc zero) (suc zero) p q h e = cc
digit_xor-apart (suc (suc x)) y p q h e = omega arith
digit_xor-apart zero (suc (suc y)) p q h e = omega arith
digit_xor-apart (suc zero) (suc (suc y)) p q h e = omega arith

same_bits : (a b i : ℕ) → bit (bit_xor a b) i ≡ false → bit a i ≡ bit b i
same_bits a b i h = digit_xor-same (bit_at a i) (bit_at b i) (bit_at-lt a i) (bit_at-lt b i) (sym (ap (λ x. x == 1) (bit_at_xor a b i)) ∙ h)

other_bits : (a b i : ℕ) → bit (bit_xor a b) i ≡ true → bit a i ≡ bit b i → ⊥
other_bits a b i h = digit_xor-apart (bit_at a i) (bit_at b i) (bit_at-lt a i) (bit_at-lt b i) (sym (ap (λ x. x == 1) (bit_at_xor a b i)) ∙ h)

-- a number in words that are the same
same_word : (a b : List ℕ) (v : ℕ) → bit_xor (get_or a (v / 64) 0) (get_or b (v / 64) 0) ≡ 0 → set_of a v ≡ set_of b v
same_word a b v none =
    set_of-split a v ∙ same_bits (get_or a (v / 64) 0) (get_or b (v / 64) 0) (v % 64) (ap (λ (x : ℕ). bit x (v % 64)) none ∙ bit-zero (v % 64)) ∙ sym (set_of-split b v)

module _ (size n m : ℕ) (a b : List ℕ) (t u : Table) (mine : AreWordsOf size n a) (theirs : AreWordsOf size m b) (d : table_of n a ≡ t) (e : table_of m b ≡ u) where
  abbrev differs : ℕ → ℕ
  differs k = bit_xor (get_or a k 0) (get_or b k 0)

  through : (v : ℕ) → set_of a v ≡ set_of b v → members t v ≡ members u v
  through v h = ap (λ (s : Nodes). s v) (same-members size n a t mine d) ∙ h ∙ sym (ap (λ (s : Nodes). s v) (same-members size m b u theirs e))

  back : (v : ℕ) → members t v ≡ members u v → set_of a v ≡ set_of b v
  back v h = sym (ap (λ (s : Nodes). s v) (same-members size n a t mine d)) ∙ h ∙ ap (λ (s : Nodes). s v) (same-members size m b u theirs e)

  -- the first words that differ, with the first bits that do
  pub part_here : (i : ℕ) → ((k : ℕ) → k < i → differs k ≡ 0) → (differs i ≡ 0 → ⊥) → differs i < 2 ^ 64 → PartAt (members t) (members u) (64 * i + trailing_zeros w64 (differs i))
  part_here i none some fits =
      let j = trailing_zeros w64 (differs i) in
      let low = lowest (differs i) some fits in
      record {
        same = λ v before. through v (elim (cases_lt (v / 64) i) [
          | inl early ↦ same_word a b v (none (v / 64) early)
          | inr here ↦
              let word : v / 64 ≡ i = omega (arith, low.below) in
              set_of-split a v ∙ same_bits (get_or a (v / 64) 0) (get_or b (v / 64) 0) (v % 64) (ap (λ (k : ℕ). bit (differs k) (v % 64)) word ∙ low.others (v % 64) (omega (arith, low.below))) ∙ sym (set_of-split b v)
        ]);
        apart = λ h. other_bits (get_or a i 0) (get_or b i 0) j low.set (sym (set_of-at a i j low.below) ∙ back (64 * i + j) h ∙ set_of-at b i j low.below);
      }

  -- none differ
  pub part_nowhere : (i : ℕ) → size ≤ i → ((k : ℕ) → k < i → differs k ≡ 0) → Equal ≡ set_cmp t u
  part_nowhere i all none = sym (set_cmp-same t u (λ v. through v (elim (cases_lt (v / 64) i) [
    | inl low ↦ same_word a b v (none (v / 64) low)
    | inr high ↦ mine.clear v (omega (arith, mine.fits)) ∙ sym (theirs.clear v (omega (arith, theirs.fits)))
  ])))
