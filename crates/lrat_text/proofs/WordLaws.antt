-- Words, from the front of a line.
use Rattle.std.proofs.Common.{◌≡◌, ℕ, suc, ◌+◌, ◌≤◌, ◌<◌, List, [], ◌∷◌, length, Bool, true, false, not, filter, take, drop, cond, refl, sym, ◌∙◌, ap, arith}
use Rattle.std.specs.List.{slice_split, onto_first, position_or_len, prefix_len}
use Rattle.std.proofs.lemmas.Bool.{false≢true}
use Rattle.std.proofs.lemmas.List.Splits.{slice_split-cons_yes, slice_split-cons_no}
use Rattle.lrat_text.specs.Words.{Word, has_byte, is_blank, words_of}

pub prefix_len-le : {A : Type 0} (p : A → Bool) (xs : List A) → prefix_len p xs ≤ length xs
prefix_len-le p [] = omega arith
prefix_len-le p (x ∷ xs) = elim (p x) as (λ b. cond b (1 + prefix_len p xs) 0 ≤ length (x ∷ xs)) [
  | true ↦ let h : prefix_len p xs ≤ length xs = prefix_len-le p xs in omega arith
  | false ↦ omega arith
]

drop_more : {A : Type 0} (n : ℕ) (x : A) (xs : List A) → drop (1 + n) (x ∷ xs) ≡ drop n xs
drop_more n x xs = let e : 1 + n ≡ suc n = omega arith in rw e refl

take_more : {A : Type 0} (n : ℕ) (x : A) (xs : List A) → take (1 + n) (x ∷ xs) ≡ x ∷ take n xs
take_more n x xs = let e : 1 + n ≡ suc n = omega arith in rw e refl

-- an element does not pass after those that do
after_prefix : {A : Type 0} (p : A → Bool) (xs : List A) (y : A) (ys : List A) → drop (prefix_len p xs) xs ≡ y ∷ ys → p y ≡ false
after_prefix p [] y ys e = cc
after_prefix p (x ∷ xs) y ys e = elim (p x) as (λ b. p x ≡ b → drop (cond b (1 + prefix_len p xs) 0) (x ∷ xs) ≡ y ∷ ys → p y ≡ false) [
  | true ↦ λ is d. after_prefix p xs y ys (sym (drop_more (prefix_len p xs) x xs) ∙ d)
  | false ↦ λ is d. let same : x ≡ y = cc in ap p (sym same) ∙ is
] refl e

-- a blank before a line changes nothing
blank_first : (b : ℕ) (line : List ℕ) → is_blank b ≡ true → words_of (b ∷ line) ≡ words_of line
blank_first b line is = ap (filter has_byte) (slice_split-cons_yes is_blank b line is)

-- nor do all blanks before the first word
pub words_of-blanks : (line : List ℕ) → words_of (drop (prefix_len is_blank line) line) ≡ words_of line
words_of-blanks [] = refl
words_of-blanks (b ∷ line) =
    elim (is_blank b) as (λ t. is_blank b ≡ t → words_of (drop (cond t (1 + prefix_len is_blank line) 0) (b ∷ line)) ≡ words_of (b ∷ line)) [
      | true ↦ λ e. ap words_of (drop_more (prefix_len is_blank line) b line) ∙ words_of-blanks line ∙ sym (blank_first b line e)
      | false ↦ λ e. refl
    ] refl

-- the first part of a line, and the others
parts : (line : List ℕ) → (rest : List Word) × (slice_split is_blank line ≡ take (position_or_len is_blank line) line ∷ rest) × (filter has_byte rest ≡ words_of (drop (position_or_len is_blank line) line))
parts [] = ([], refl, refl)
parts (b ∷ line) =
    let more : (rest : List Word) × (slice_split is_blank line ≡ take (position_or_len is_blank line) line ∷ rest) × (filter has_byte rest ≡ words_of (drop (position_or_len is_blank line) line)) = parts line in
    elim (is_blank b) as (λ t. is_blank b ≡ t → (rest : List Word) × (slice_split is_blank (b ∷ line) ≡ take (cond (not t) (1 + position_or_len is_blank line) 0) (b ∷ line) ∷ rest) × (filter has_byte rest ≡ words_of (drop (cond (not t) (1 + position_or_len is_blank line) 0) (b ∷ line)))) [
      | true ↦ λ is. (slice_split is_blank line, slice_split-cons_yes is_blank b line is, sym (blank_first b line is))
      | false ↦ λ is. (
        more.0,
        slice_split-cons_no is_blank b line is ∙ ap (onto_first b) more.1 ∙ ap (λ (w : Word). w ∷ more.0) (sym (take_more (position_or_len is_blank line) b line)),
        more.2 ∙ ap words_of (sym (drop_more (position_or_len is_blank line) b line)),
      )
    ] refl

kept : (w : Word) (rest : List Word) → 0 < length w → filter has_byte (w ∷ rest) ≡ w ∷ filter has_byte rest
kept [] rest h = absurd (omega arith)
kept (x ∷ w) rest h = refl

long : (b : ℕ) (line : List ℕ) → is_blank b ≡ false → 0 < length (take (position_or_len is_blank (b ∷ line)) (b ∷ line))
long b line is = elim (is_blank b) as (λ t. is_blank b ≡ t → 0 < length (take (cond (not t) (1 + position_or_len is_blank line) 0) (b ∷ line))) [
  | true ↦ λ e. absurd (false≢true (sym is ∙ e))
  | false ↦ λ e. rw (take_more (position_or_len is_blank line) b line) (omega arith)
] refl

first_word : (b : ℕ) (line : List ℕ) → is_blank b ≡ false → words_of (b ∷ line) ≡ take (position_or_len is_blank (b ∷ line)) (b ∷ line) ∷ words_of (drop (position_or_len is_blank (b ∷ line)) (b ∷ line))
first_word b line is =
    let all : (rest : List Word) × (slice_split is_blank (b ∷ line) ≡ take (position_or_len is_blank (b ∷ line)) (b ∷ line) ∷ rest) × (filter has_byte rest ≡ words_of (drop (position_or_len is_blank (b ∷ line)) (b ∷ line))) = parts (b ∷ line) in
    ap (filter has_byte) all.1 ∙ kept (take (position_or_len is_blank (b ∷ line)) (b ∷ line)) all.0 (long b line is) ∙ ap (λ (ws : List Word). take (position_or_len is_blank (b ∷ line)) (b ∷ line) ∷ ws) all.2

-- a line whose bytes after the first blanks begin with this word
pub next_word : (line cut word rest : List ℕ) (n m : ℕ) → n ≡ prefix_len is_blank line → cut ≡ drop n line → 0 < length cut → m ≡ position_or_len is_blank cut → word ≡ take m cut → rest ≡ drop m cut → words_of line ≡ word ∷ words_of rest
next_word line [] word rest n m a b c d e f = absurd (omega arith)
next_word line (x ∷ cut) word rest n m a b c d e f =
    let whole : drop (prefix_len is_blank line) line ≡ x ∷ cut = ap (λ k. drop k line) (sym a) ∙ sym b in
    sym (words_of-blanks line) ∙ ap words_of whole ∙ first_word x cut (after_prefix is_blank line x cut whole)
    ∙ sym (ap (λ (w : Word). w ∷ words_of rest) (e ∙ ap (λ k. take k (x ∷ cut)) d) ∙ ap (λ (ws : List Word). take (position_or_len is_blank (x ∷ cut)) (x ∷ cut) ∷ ws) (ap words_of (f ∙ ap (λ k. drop k (x ∷ cut)) d)))

-- a line of blanks
pub no_word : (line cut : List ℕ) (n : ℕ) → n ≡ prefix_len is_blank line → cut ≡ drop n line → length cut ≡ 0 → words_of line ≡ []
no_word line [] n a b c = sym (words_of-blanks line) ∙ ap words_of (ap (λ k. drop k line) (sym a) ∙ sym b)
no_word line (x ∷ cut) n a b c = absurd (omega arith)
