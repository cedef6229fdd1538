-- The numbers of a set word by word: what is left of a word whose lowest bits were given.
use Rattle.std.proofs.Common.{◌≡◌, ℕ, ◌+◌, ◌*◌, ◌/◌, ◌%◌, ◌^◌, ◌<◌, ◌≤◌, ◌==◌, true, false, not, List, sym, ◌∙◌, ap, arith, inl, inr, get_or, w64, bit_and}
use Rattle.std.specs.Int.{bit_not, trailing_zeros}
use Rattle.std.proofs.lemmas.Bool.{cases_lt, both_ways, and_from, and_parts, not-true, not_from_false, false_from_ne_true, eqb-true, eq-eqb}
use Rattle.fbas_model.specs.Nodes.{Nodes, Table, members, ◌∈◌, HasNoneFrom, IsLeastFrom}
use Rattle.name_set.specs.Words.{bit, table_of, AreWordsOf, IsRest, IsFirst}
use Rattle.name_set.proofs.WordLaws.{bit-zero, bit-take, same-members}
use Rattle.name_set.proofs.WordFinds.{IsLowest, lowest, set_of-at, set_of-split}

-- a rest that is 0 has no members
nothing_left : (s : Nodes) (at from rest : ℕ) → IsRest s at from rest → rest ≡ 0 → (v : ℕ) → from ≤ v → v < 64 * at + 64 → v ∈ s → ⊥
nothing_left s at from rest r none v above below is = both_ways (bit rest (v % 64)) (ap (λ (x : ℕ). bit x (v % 64)) none ∙ bit-zero (v % 64)) (r.all v above below is)

-- so none is left where none stands after it
pub nothing_behind : (s : Nodes) (at from rest : ℕ) → IsRest s at from rest → rest ≡ 0 → HasNoneFrom s (64 * (at + 1)) → HasNoneFrom s from
nothing_behind s at from rest r none behind v above = elim (cases_lt v (64 * at + 64)) [
  | inl lt ↦ false_from_ne_true (s v) (λ is. nothing_left s at from rest r none v above lt is)
  | inr le ↦ behind v (omega arith)
]

pub first_same : (s : Nodes) (at from rest : ℕ) → IsRest s at from rest → (rest ≡ 0 → ⊥) → rest < 2 ^ 64 → IsFirst s from at rest
first_same s at from rest r some fits = record { low = from; after = omega arith; none = λ v above below is. omega arith; some = some; fits = fits; is_rest = r }

-- the lowest bit of the rest is the least number that was not given
module _ (s : Nodes) (from at rest : ℕ) (first : IsFirst s from at rest) where
  least : IsLowest rest (trailing_zeros w64 rest)
  least = lowest rest first.some first.fits

  pub first_below : trailing_zeros w64 rest < 64
  first_below = least.below

  pub first_least : IsLeastFrom s from (64 * at + trailing_zeros w64 rest)
  first_least =
      let here = first.is_rest.each (trailing_zeros w64 rest) least.below least.set in (
        omega (arith, here.0, first.after),
        here.1,
        λ v above is. elim (cases_lt v (64 * at + trailing_zeros w64 rest)) [
          | inr le ↦ le
          | inl lt ↦ elim (cases_lt v first.low) [
            | inl early ↦ absurd (first.none v above early is)
            | inr late ↦
                let place : v % 64 < trailing_zeros w64 rest = omega (arith, least.below, lt, late, first.is_rest.reached) in
                absurd (both_ways (bit rest (v % 64)) (least.others (v % 64) place) (first.is_rest.all v late (omega (arith, lt, least.below)) is))
          ]
        ],
      )

  -- and the others are left
  pub first_rest : IsRest s at (64 * at + trailing_zeros w64 rest + 1) (bit_and rest (bit_not w64 (1 * 2 ^ trailing_zeros w64 rest % 2 ^ 64)))
  first_rest = record {
    reached = omega arith;
    within = omega (arith, least.below);
    each = λ j low set.
        let both = and_parts (bit rest j) (not (j == trailing_zeros w64 rest)) (sym (bit-take rest (trailing_zeros w64 rest) j least.below low) ∙ set) in
        let here = first.is_rest.each j low both.0 in
        let apart : j ≡ trailing_zeros w64 rest → ⊥ = λ e. both_ways (j == trailing_zeros w64 rest) (not-true (j == trailing_zeros w64 rest) both.1) (eq-eqb j (trailing_zeros w64 rest) e) in
        let behind : trailing_zeros w64 rest < j = elim (cases_lt j (trailing_zeros w64 rest)) [
          | inl lt ↦ absurd (both_ways (bit rest j) (least.others j lt) both.0)
          | inr le ↦ omega (arith, le, apart)
        ] in (omega (arith, behind), here.1);
    all = λ v above below is.
        let here = first.is_rest.each (trailing_zeros w64 rest) least.below least.set in
        let place : trailing_zeros w64 rest < v % 64 = omega (arith, above, below) in
        let kept = first.is_rest.all v (omega (arith, here.0, above)) below is in
        let apart : (v % 64 == trailing_zeros w64 rest) ≡ false = false_from_ne_true (v % 64 == trailing_zeros w64 rest) (λ e. let same = eqb-true (v % 64) (trailing_zeros w64 rest) e in omega (arith, same, place)) in
        bit-take rest (trailing_zeros w64 rest) (v % 64) least.below (omega arith) ∙ and_from (bit rest (v % 64)) (not (v % 64 == trailing_zeros w64 rest)) kept (not_from_false (v % 64 == trailing_zeros w64 rest) apart);
  }

-- ---- whole words

module _ (size n : ℕ) (a : List ℕ) (t : Table) (are : AreWordsOf size n a) (d : table_of n a ≡ t) where
  -- a whole word
  pub whole_rest : (at : ℕ) → IsRest (members t) at (64 * at) (get_or a at 0)
  whole_rest at = record {
    reached = omega arith;
    within = omega arith;
    each = λ j low set. (omega arith, ap (λ (s : Nodes). s (64 * at + j)) (same-members size n a t are d) ∙ set_of-at a at j low ∙ set);
    all = λ v above below is.
        let word : v / 64 ≡ at = omega (arith, above, below) in
        ap (λ (k : ℕ). bit (get_or a k 0) (v % 64)) (sym word) ∙ sym (set_of-split a v) ∙ sym (ap (λ (s : Nodes). s v) (same-members size n a t are d)) ∙ is;
  }

  -- no numbers have no words
  pub no_rest : n ≡ 0 → IsRest (members t) 0 0 0
  no_rest none = record {
    reached = omega arith;
    within = omega arith;
    each = λ j low set. absurd (both_ways (bit 0 j) (bit-zero j) set);
    all = λ v above below is. absurd (both_ways (members t v) (ap (λ (s : Nodes). s v) (same-members size n a t are d) ∙ are.clear v (omega (arith, none))) is);
  }

  -- the word of the least number after a rest that is 0
  pub first_behind : (at from rest v : ℕ) → IsRest (members t) at from rest → rest ≡ 0 → IsLeastFrom (members t) (64 * (at + 1)) v → get_or a (v / 64) 0 < 2 ^ 64 → IsFirst (members t) from (v / 64) (get_or a (v / 64) 0)
  first_behind at from rest v r none least fits = record {
    low = 64 * (v / 64);
    after = omega (arith, r.within, least.0);
    none = λ w above below is. elim (cases_lt w (64 * at + 64)) [
      | inl lt ↦ nothing_left (members t) at from rest r none w above lt is
      | inr le ↦ let late = least.2 w (omega (arith, le)) is in omega (arith, late, below)
    ];
    some = λ zero.
        let here : bit (get_or a (v / 64) 0) (v % 64) ≡ true = sym (set_of-split a v) ∙ sym (ap (λ (s : Nodes). s v) (same-members size n a t are d)) ∙ least.1 in
        both_ways (bit (get_or a (v / 64) 0) (v % 64)) (ap (λ (x : ℕ). bit x (v % 64)) zero ∙ bit-zero (v % 64)) here;
    fits = fits;
    is_rest = whole_rest (v / 64);
  }
