-- The bits of words, and the sets of numbers that words are.
use Rattle.std.proofs.Common.{◌≡◌, ℕ, zero, suc, ◌+◌, ◌-◌, ◌*◌, ◌/◌, ◌%◌, ◌^◌, ◌<◌, ◌≤◌, ◌==◌, min, max, Bool, true, false, not, ◌&&◌, ◌||◌, List, length, refl, sym, ◌∙◌, ap, ap₂, subst, arith, inl, inr, get_or, set, w64, bit_and, bit_or, replicate}
use mathlib.Core.Path.{fun_ext}
use Rattle.std.specs.Int.{bit_at, bit_not}
use Rattle.std.proofs.lemmas.Bool.{cases_Bool, both_ways, eqb-true, eq-eqb, cases_lt, false_from_ne_true}
use Rattle.std.proofs.lemmas.List.{get_or_past, get_or-set_other}
use Rattle.std.proofs.lemmas.Grind.{get_or-set_at}
use Rattle.std.proofs.lemmas.Nat.Bits.{bit_at-lt, bit_at-zero, bit_at_and, bit_at_or, bit_at_not, bit_at_set_same, bit_at_set_other, bit_at_clear_same, bit_at_clear_other, shr_and_one}
use Rattle.fbas_model.specs.Nodes.{Nodes, Table, members, ∅, only, ◌∪◌, ◌∖◌}
use Rattle.fbas_model.proofs.Tables.{length-table_from, members-table_from}
use Rattle.name_set.specs.declared.words.TheConstants.{MOST_WORDS}
use Rattle.name_set.specs.Words.{bit, set_of, table_of, AreWordsOf}

-- ---- one bit

-- an operation on two digits, known at each pair of them
digits : (f : ℕ → ℕ → ℕ) (g : Bool → Bool → Bool) → (f 0 0 == 1) ≡ g false false → (f 0 1 == 1) ≡ g false true → (f 1 0 == 1) ≡ g true false → (f 1 1 == 1) ≡ g true true → (x y : ℕ) → x < 2 → y < 2 → (f x y == 1) ≡ g (x == 1) (y == 1)
digits f g a b c d zero zero p q = a
digits f g a b c d zero (suc zero) p q = b
digits f g a b c d (suc zero) zero p q = c
digits f g a b c d (suc zero) (suc zero) p q = d
digits f g a b c d (suc (suc x)) y p q = absurd (omega arith)
digits f g a b c d zero (suc (suc y)) p q = absurd (omega arith)
digits f g a b c d (suc zero) (suc (suc y)) p q = absurd (omega arith)

digit_and : (x y : ℕ) → x < 2 → y < 2 → (min x y == 1) ≡ ((x == 1) && (y == 1))
digit_and = digits (λ x y. min x y) (λ a b. a && b) refl refl refl refl

digit_or : (x y : ℕ) → x < 2 → y < 2 → (max x y == 1) ≡ ((x == 1) || (y == 1))
digit_or = digits (λ x y. max x y) (λ a b. a || b) refl refl refl refl

digit_not : (x : ℕ) → x < 2 → (1 - x == 1) ≡ not (x == 1)
digit_not zero p = refl
digit_not (suc zero) p = refl
digit_not (suc (suc x)) p = absurd (omega arith)

pub bit-zero : (i : ℕ) → bit 0 i ≡ false
bit-zero i = ap (λ x. x == 1) (bit_at-zero i)

pub bit-and : (a b i : ℕ) → bit (bit_and a b) i ≡ (bit a i && bit b i)
bit-and a b i = ap (λ x. x == 1) (bit_at_and a b i) ∙ digit_and (bit_at a i) (bit_at b i) (bit_at-lt a i) (bit_at-lt b i)

pub bit-or : (a b i : ℕ) → bit (bit_or a b) i ≡ (bit a i || bit b i)
bit-or a b i = ap (λ x. x == 1) (bit_at_or a b i) ∙ digit_or (bit_at a i) (bit_at b i) (bit_at-lt a i) (bit_at-lt b i)

pub bit-without : (a b i : ℕ) → b < 2 ^ 64 → i < 64 → bit (bit_and a (bit_not w64 b)) i ≡ (bit a i && not (bit b i))
bit-without a b i fits low =
    bit-and a (bit_not w64 b) i ∙ ap (λ x. bit a i && x) (ap (λ x. x == 1) (bit_at_not w64 b i fits low) ∙ digit_not (bit_at b i) (bit_at-lt b i))

eqb-iff : (a b c d : ℕ) → (a ≡ b → c ≡ d) → (c ≡ d → a ≡ b) → (a == b) ≡ (c == d)
eqb-iff a b c d f g = elim (cases_Bool (a == b)) [
  | inl e ↦ e ∙ sym (eq-eqb c d (f (eqb-true a b e)))
  | inr e ↦ e ∙ sym (false_from_ne_true (c == d) (λ k. both_ways (a == b) e (eq-eqb a b (g (eqb-true c d k)))))
]

or-same : (a b : Bool) → b ≡ true → true ≡ (a || b)
or-same true b e = refl
or-same false b e = sym e

or-other : (a b : Bool) → b ≡ false → a ≡ (a || b)
or-other true b e = refl
or-other false b e = sym e

and_not-same : (a b : Bool) → b ≡ true → false ≡ (a && not b)
and_not-same true b e = sym (ap not e)
and_not-same false b e = refl

and_not-other : (a b : Bool) → b ≡ false → a ≡ (a && not b)
and_not-other true b e = sym (ap not e)
and_not-other false b e = refl

is-one : (x y : ℕ) → x ≡ y → (x == 1) ≡ (y == 1)
is-one x y e = ap (λ z. z == 1) e

-- the word with one bit more
pub bit-put : (n k i : ℕ) → k < 64 → bit (bit_or n (1 * 2 ^ k % 2 ^ 64)) i ≡ (bit n i || (i == k))
bit-put n k i low = elim (cases_Bool (i == k)) [
  | inl e ↦ subst (λ (j : ℕ). bit (bit_or n (1 * 2 ^ k % 2 ^ 64)) j ≡ true) (sym (eqb-true i k e)) (is-one _ _ (bit_at_set_same w64 n k low)) ∙ or-same (bit n i) (i == k) e
  | inr e ↦ is-one _ _ (bit_at_set_other w64 n k low i (λ same. both_ways (i == k) e (eq-eqb i k same))) ∙ or-other (bit n i) (i == k) e
]

-- the word with one bit less
pub bit-take : (n k i : ℕ) → k < 64 → i < 64 → bit (bit_and n (bit_not w64 (1 * 2 ^ k % 2 ^ 64))) i ≡ (bit n i && not (i == k))
bit-take n k i low high = elim (cases_Bool (i == k)) [
  | inl e ↦ subst (λ (j : ℕ). bit (bit_and n (bit_not w64 (1 * 2 ^ k % 2 ^ 64))) j ≡ false) (sym (eqb-true i k e)) (is-one _ _ (bit_at_clear_same w64 n k low)) ∙ and_not-same (bit n i) (i == k) e
  | inr e ↦ is-one _ _ (bit_at_clear_other w64 n k low i high (λ same. both_ways (i == k) e (eq-eqb i k same))) ∙ and_not-other (bit n i) (i == k) e
]

-- ---- the set that words are

pub length-table_of : (n : ℕ) (words : List ℕ) → length (table_of n words) ≡ n
unfolding table_of
length-table_of n words = length-table_from 0 n (set_of words)

pub members-table_of : (size n : ℕ) (words : List ℕ) → AreWordsOf size n words → members (table_of n words) ≡ set_of words
unfolding table_of
members-table_of size n words are = fun_ext (λ v. elim (cases_lt v n) [
  | inl low ↦ let e : 0 + v ≡ v = omega arith in members-table_from 0 n (set_of words) v low ∙ ap (set_of words) e
  | inr high ↦ get_or_past (table_of n words) v false (omega (arith, length-table_of n words)) ∙ sym (are.clear v high)
])

-- a table that is that of words
module _ (size n : ℕ) (words : List ℕ) (t : Table) (are : AreWordsOf size n words) (e : table_of n words ≡ t) where
  pub same-length : length t ≡ n
  same-length = sym (ap length e) ∙ length-table_of n words

  pub same-members : members t ≡ set_of words
  same-members = sym (ap members e) ∙ members-table_of size n words are

  pub member-has : (v : ℕ) → (bit_and (get_or words (v / 64) 0 / 2 ^ (v % 64)) 1 == 1) ≡ members t v
  unfolding set_of
  member-has v = is-one _ _ (shr_and_one (get_or words (v / 64) 0) (v % 64)) ∙ sym (ap (λ (s : Nodes). s v) same-members)

-- two tables of one length are of words for one n
pub same_n : (size n m : ℕ) (words others : List ℕ) (t u : Table) → AreWordsOf size n words → AreWordsOf size m others → table_of n words ≡ t → table_of m others ≡ u → length t ≡ length u → m ≡ n
same_n size n m words others t u mine theirs d e same = sym (same-length size m others u theirs e) ∙ sym same ∙ same-length size n words t mine d

-- ---- one word is written

pub set_of-same : (words : List ℕ) (i x v : ℕ) → i < length words → v / 64 ≡ i → set_of (set words i x) v ≡ bit x (v % 64)
unfolding set_of
set_of-same words i x v h e = ap (λ (w : ℕ). bit w (v % 64)) (get_or-set_at words i (v / 64) x 0 e h)

pub set_of-other : (words : List ℕ) (i x v : ℕ) → (v / 64 ≡ i → ⊥) → set_of (set words i x) v ≡ set_of words v
unfolding set_of
set_of-other words i x v ne = ap (λ (w : ℕ). bit w (v % 64)) (get_or-set_other words i (v / 64) x 0 ne)

set_of-is : (words : List ℕ) (v i : ℕ) → v / 64 ≡ i → set_of words v ≡ bit (get_or words i 0) (v % 64)
unfolding set_of
set_of-is words v i e = ap (λ (j : ℕ). bit (get_or words j 0) (v % 64)) e

same-place : (v at : ℕ) → v / 64 ≡ at / 64 → (v % 64 == at % 64) ≡ (v == at)
same-place v at e = eqb-iff (v % 64) (at % 64) v at (λ k. omega arith) (λ k. ap (λ x. x % 64) k)

other-place : (v at : ℕ) → (v / 64 ≡ at / 64 → ⊥) → (v == at) ≡ false
other-place v at ne = false_from_ne_true (v == at) (λ k. ne (ap (λ x. x / 64) (eqb-true v at k)))

-- the words with the number put into the set
abbrev pub words_put : List ℕ → ℕ → List ℕ
words_put words at = set words (at / 64) (bit_or (get_or words (at / 64) 0) (1 * 2 ^ (at % 64) % 2 ^ 64))

-- and with it taken out
abbrev pub words_taken : List ℕ → ℕ → List ℕ
words_taken words at = set words (at / 64) (bit_and (get_or words (at / 64) 0) (bit_not w64 (1 * 2 ^ (at % 64) % 2 ^ 64)))

module _ (words : List ℕ) (at : ℕ) (h : at / 64 < length words) where
  abbrev word : ℕ
  word = get_or words (at / 64) 0

  pub set_of-put : set_of (words_put words at) ≡ set_of words ∪ only at
  set_of-put = fun_ext (λ v. elim (cases_Bool (v / 64 == at / 64)) [
    | inl k ↦
        let e = eqb-true (v / 64) (at / 64) k in
        set_of-same words (at / 64) _ v h e ∙ bit-put word (at % 64) (v % 64) (omega arith)
        ∙ ap₂ (λ (a b : Bool). a || b) (sym (set_of-is words v (at / 64) e)) (same-place v at e)
    | inr k ↦
        let ne = λ (e : v / 64 ≡ at / 64). both_ways (v / 64 == at / 64) k (eq-eqb (v / 64) (at / 64) e) in
        set_of-other words (at / 64) _ v ne ∙ or-other (set_of words v) (v == at) (other-place v at ne)
  ])

  pub set_of-taken : set_of (words_taken words at) ≡ set_of words ∖ only at
  set_of-taken = fun_ext (λ v. elim (cases_Bool (v / 64 == at / 64)) [
    | inl k ↦
        let e = eqb-true (v / 64) (at / 64) k in
        set_of-same words (at / 64) _ v h e ∙ bit-take word (at % 64) (v % 64) (omega arith) (omega arith)
        ∙ ap₂ (λ (a b : Bool). a && not b) (sym (set_of-is words v (at / 64) e)) (same-place v at e)
    | inr k ↦
        let ne = λ (e : v / 64 ≡ at / 64). both_ways (v / 64 == at / 64) k (eq-eqb (v / 64) (at / 64) e) in
        set_of-other words (at / 64) _ v ne ∙ and_not-other (set_of words v) (v == at) (other-place v at ne)
  ])

-- ---- words whose set is known

-- words that are the words of a set have its members
pub members-known : (size n : ℕ) (words : List ℕ) (s : Nodes) → AreWordsOf size n words → set_of words ≡ s → members (table_of n words) ≡ s
members-known size n words s are e = members-table_of size n words are ∙ e

-- they are words of numbers below n where the set has no others
pub known_words : (size n : ℕ) (before words : List ℕ) (s : Nodes) → AreWordsOf size n before → set_of words ≡ s → ((v : ℕ) → n ≤ v → s v ≡ false) → AreWordsOf size n words
known_words size n before words s are e none = record {
  fits = are.fits;
  few = are.few;
  clear = λ v h. ap (λ (t : Nodes). t v) e ∙ none v h;
}

-- the words with the number put into the set, and with it taken out, are words of numbers below n
module _ (size n : ℕ) (words : List ℕ) (at : ℕ) (h : at / 64 < length words) (are : AreWordsOf size n words) (below : at < n) where
  other-above : (v : ℕ) → n ≤ v → (v == at) ≡ false
  other-above v high = false_from_ne_true (v == at) (λ k. let e = eqb-true v at k in absurd (omega arith))

  pub put_words : AreWordsOf size n (words_put words at)
  put_words = known_words size n words (words_put words at) (set_of words ∪ only at) are (set_of-put words at h) (λ v high. ap₂ (λ (a b : Bool). a || b) (are.clear v high) (other-above v high))

  pub take_words : AreWordsOf size n (words_taken words at)
  take_words = known_words size n words (words_taken words at) (set_of words ∖ only at) are (set_of-taken words at h) (λ v high. ap (λ (a : Bool). a && not (v == at)) (are.clear v high))

-- ---- the words of the empty set

get_or-none : (k i : ℕ) → let z : ℕ = 0 in get_or (replicate k z) i z ≡ z
get_or-none zero i = refl
get_or-none (suc k) zero = refl
get_or-none (suc k) (suc i) = get_or-none k i

pub set_of-none : (k : ℕ) → set_of (replicate k 0) ≡ ∅
unfolding set_of
set_of-none k = fun_ext (λ v. ap (λ (w : ℕ). bit w (v % 64)) (get_or-none k (v / 64)) ∙ bit-zero (v % 64))

pub none_words : (size n : ℕ) → n ≤ 64 * size → size ≤ MOST_WORDS → AreWordsOf size n (replicate size 0)
none_words size n fits few = record { fits = fits; few = few; clear = λ v h. ap (λ (s : Nodes). s v) (set_of-none size) }
