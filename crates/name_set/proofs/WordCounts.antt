-- How many numbers the words of a set have.
use Rattle.std.proofs.Common.{◌≡◌, ℕ, zero, suc, ◌+◌, ◌-◌, ◌*◌, ◌/◌, ◌%◌, ◌^◌, ◌<◌, ◌≤◌, ◌==◌, Bool, true, false, List, ◌∷◌, ◌++◌, cond, refl, sym, ◌∙◌, ap, arith, get_or}
use Rattle.std.proofs.Math.Nat.{pow-suc}
use lib.Count.{ones, ones_step, ones-le}
use Rattle.std.proofs.lemmas.List.Sums.{sum_by-append}
use Rattle.std.proofs.lemmas.Nat.Bits.{bit_at-suc, bit_at_lowest}
use Rattle.fbas_model.specs.Nodes.{Nodes, Table, size}
use Rattle.fbas_model.specs.Restriction.{table_from}
use Rattle.fbas_model.proofs.Sizes.{size-cons}
use Rattle.name_set.specs.Words.{bit, set_of, table_of, AreWordsOf}
use Rattle.name_set.proofs.WordFinds.{set_of-at}

-- a table of two parts
table_from-cat : (v m n : ℕ) (s : Nodes) → table_from v (m + n) s ≡ table_from v m s ++ table_from (v + m) n s
table_from-cat v zero n s = let e : zero + n ≡ n = omega arith in let f : v ≡ v + zero = omega arith in ap (λ k. table_from v k s) e ∙ ap (λ k. table_from k n s) f
table_from-cat v (suc m) n s =
    let e : suc m + n ≡ suc (m + n) = omega arith in
    let f : v + 1 + m ≡ v + suc m = omega arith in
    ap (λ k. table_from v k s) e ∙ ap (λ (ms : Table). s v ∷ ms) (table_from-cat (v + 1) m n s ∙ ap (λ k. table_from (v + 1) m s ++ table_from k n s) f)

size-cat : (s t : Table) → size (s ++ t) ≡ size s + size t
size-cat s t = sum_by-append (λ (m : Bool). cond m 1 0) s t

size-first : (b : Bool) (t : Table) (d : ℕ) → d < 2 → b ≡ (d == 1) → size (b ∷ t) ≡ d + size t
size-first b t d low e = size-cons b t ∙ ap (λ n. n + size t) (digit b d low e)
  where
    digit : (b : Bool) (d : ℕ) → d < 2 → b ≡ (d == 1) → cond b 1 0 ≡ d
    digit true zero low e = absurd cc
    digit true (suc zero) low e = refl
    digit true (suc (suc d)) low e = absurd (omega arith)
    digit false zero low e = refl
    digit false (suc zero) low e = absurd cc
    digit false (suc (suc d)) low e = absurd (omega arith)

-- numbers that are the bits of a word are as many as its ones
size-word : (v k x : ℕ) (s : Nodes) → x < 2 ^ k → ((j : ℕ) → j < k → s (v + j) ≡ bit x j) → size (table_from v k s) ≡ ones x
size-word v zero x s fits each =
    let none : x ≡ 0 = omega arith in omega (arith, ones-le 0 x fits)
size-word v (suc k) x s fits each =
    let half : x / 2 < 2 ^ k = omega (arith, pow-suc 2 k) in
    let at : v ≡ v + 0 = omega arith in
    let first : s v ≡ (x % 2 == 1) = ap s at ∙ each 0 (omega arith) ∙ ap (λ d. d == 1) (bit_at_lowest x) in
    size-first (s v) (table_from (v + 1) k s) (x % 2) (omega arith) first
    ∙ ap (λ n. x % 2 + n) (size-word (v + 1) k (x / 2) s half (λ j low.
    let e : v + 1 + j ≡ v + suc j = omega arith in
    ap s e ∙ each (suc j) (omega arith) ∙ ap (λ d. d == 1) (bit_at-suc x j)))
    ∙ sym (ones_step x)

-- no number of an empty part is counted
size-none : (v k : ℕ) (s : Nodes) → ((j : ℕ) → j < k → s (v + j) ≡ false) → size (table_from v k s) ≡ 0
size-none v zero s none = refl
size-none v (suc k) s none =
    let at : v ≡ v + 0 = omega arith in
    let first : s v ≡ false = ap s at ∙ none 0 (omega arith) in
    let rest = size-none (v + 1) k s (λ j low. let e : v + 1 + j ≡ v + suc j = omega arith in ap s e ∙ none (suc j) (omega arith)) in
    omega (arith, size-first (s v) (table_from (v + 1) k s) 0 (omega arith) first, rest)

-- how many of the numbers in the first words are in the set
abbrev pub counted : List ℕ → ℕ → ℕ
counted words i = size (table_from 0 (64 * i) (set_of words))

pub counted-more : (words : List ℕ) (i : ℕ) → get_or words i 0 < 2 ^ 64 → counted words (i + 1) ≡ counted words i + ones (get_or words i 0)
counted-more words i fits =
    let e : 64 * (i + 1) ≡ 64 * i + 64 = omega arith in
    ap (λ k. size (table_from 0 k (set_of words))) e ∙ ap size (table_from-cat 0 (64 * i) 64 (set_of words)) ∙ size-cat (table_from 0 (64 * i) (set_of words)) (table_from (0 + 64 * i) 64 (set_of words))
    ∙ ap (λ n. counted words i + n) (let z : 0 + 64 * i ≡ 64 * i = omega arith in ap (λ k. size (table_from k 64 (set_of words))) z ∙ size-word (64 * i) 64 (get_or words i 0) (set_of words) fits (λ j low. set_of-at words i j low))

-- all of them are, as far as the set goes
pub counted-all : (size_of n : ℕ) (words : List ℕ) (t : Table) (i : ℕ) → AreWordsOf size_of n words → table_of n words ≡ t → n ≤ 64 * i → counted words i ≡ size t
unfolding table_of
counted-all size_of n words t i are d all =
    let m = 64 * i - n in
    let e : 64 * i ≡ n + m = omega arith in
    ap (λ k. size (table_from 0 k (set_of words))) e ∙ ap size (table_from-cat 0 n m (set_of words)) ∙ size-cat (table_from 0 n (set_of words)) (table_from (0 + n) m (set_of words))
    ∙ ap (λ k. size (table_from 0 n (set_of words)) + k) (size-none (0 + n) m (set_of words) (λ j low. are.clear (0 + n + j) (omega arith)))
    ∙ omega (arith, ap size d)
