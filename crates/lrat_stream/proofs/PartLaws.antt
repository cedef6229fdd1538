-- The words of a line that comes in parts.
use Rattle.std.proofs.Common.{◌≡◌, ℕ, zero, suc, ◌+◌, ◌-◌, ◌<◌, ◌≤◌, List, [], ◌∷◌, ◌++◌, length, get_or, Bool, true, false, not, ◌||◌, ◌≢◌, ◌⊎◌, inl, inr, All, filter, take, drop, cond, Result, Ok, Err, refl, sym, ap, ◌∙◌, subst, arith, append_assoc, take-append-drop}
use Rattle.std.specs.Prelude.{is_ok, OnOk}
use Rattle.std.specs.List.{slice_split, onto_first, list_any, position_or_len}
use Rattle.std.proofs.lemmas.Bool.{false≢true}
use Rattle.std.proofs.lemmas.List.{append-nil, take_more}
use Rattle.std.proofs.lemmas.List.Splits.{slice_split-cons_yes, slice_split-cons_no, slice_split_none, slice_split_at}
use Rattle.std.proofs.lemmas.List.Elements.{filter-append, All-nil, All-cons}
use Rattle.lrat_text.specs.Words.{Word, has_byte, is_blank, words_of}
use Rattle.lrat_stream.specs.Solid.{IsSolid}

each : (bytes : List ℕ) → IsSolid bytes → All (λ b. is_blank b ≡ false) bytes
each [] is = All-nil (λ b. is_blank b ≡ false)
each (x ∷ bytes) is = elim (is_blank x) as (λ t. is_blank x ≡ t → (t || list_any is_blank bytes) ≡ false → All (λ b. is_blank b ≡ false) (x ∷ bytes)) [
  | true ↦ λ _ e. absurd (false≢true (sym e))
  | false ↦ λ here e. All-cons (λ b. is_blank b ≡ false) x bytes here (each bytes e)
] refl is

-- the first of the parts between blanks
first_part : (line : List ℕ) → (w : Word) × (rest : List Word) × (slice_split is_blank line ≡ w ∷ rest)
first_part [] = ([], [], refl)
first_part (b ∷ line) =
    let more : (w : Word) × (rest : List Word) × (slice_split is_blank line ≡ w ∷ rest) = first_part line in
    elim (is_blank b) as (λ t. is_blank b ≡ t → (w : Word) × (rest : List Word) × (slice_split is_blank (b ∷ line) ≡ w ∷ rest)) [
      | true ↦ λ is. ([], slice_split is_blank line, slice_split-cons_yes is_blank b line is)
      | false ↦ λ is. (b ∷ more.0, more.1, slice_split-cons_no is_blank b line is ∙ ap (onto_first b) more.2)
    ] refl

split_append : (xs : List ℕ) (b : ℕ) (ys : List ℕ) → is_blank b ≡ true → slice_split is_blank (xs ++ b ∷ ys) ≡ slice_split is_blank xs ++ slice_split is_blank ys
split_append [] b ys is = slice_split-cons_yes is_blank b ys is
split_append (x ∷ xs) b ys is =
    let later : slice_split is_blank (xs ++ b ∷ ys) ≡ slice_split is_blank xs ++ slice_split is_blank ys = split_append xs b ys is in
    let first : (w : Word) × (rest : List Word) × (slice_split is_blank xs ≡ w ∷ rest) = first_part xs in
    elim (is_blank x) as (λ t. is_blank x ≡ t → slice_split is_blank (x ∷ (xs ++ b ∷ ys)) ≡ slice_split is_blank (x ∷ xs) ++ slice_split is_blank ys) [
      | true ↦ λ here.
          slice_split-cons_yes is_blank x (xs ++ b ∷ ys) here ∙ ap (λ (ws : List Word). [] ∷ ws) later
          ∙ sym (ap (λ (ws : List Word). ws ++ slice_split is_blank ys) (slice_split-cons_yes is_blank x xs here))
      | false ↦ λ here.
          slice_split-cons_no is_blank x (xs ++ b ∷ ys) here ∙ ap (onto_first x) (later ∙ ap (λ (ws : List Word). ws ++ slice_split is_blank ys) first.2)
          ∙ sym (ap (λ (ws : List Word). ws ++ slice_split is_blank ys) (slice_split-cons_no is_blank x xs here ∙ ap (onto_first x) first.2))
    ] refl

-- a blank parts the words before it from those after it
pub parted : (xs : List ℕ) (b : ℕ) (ys : List ℕ) → is_blank b ≡ true → words_of (xs ++ b ∷ ys) ≡ words_of xs ++ words_of ys
parted xs b ys is = ap (filter has_byte) (split_append xs b ys is) ∙ filter-append has_byte (slice_split is_blank xs) (slice_split is_blank ys)

-- bytes of one word
pub one_word : (w : Word) → 0 < length w → IsSolid w → words_of w ≡ w ∷ []
one_word [] some solid = absurd (omega (arith, some))
one_word (x ∷ w) some solid = ap (filter has_byte) (slice_split_none is_blank (x ∷ w) (each (x ∷ w) solid))

-- a word that ends before a blank
pub word_then : (w : Word) (b : ℕ) (ys : List ℕ) → 0 < length w → IsSolid w → is_blank b ≡ true → words_of (w ++ b ∷ ys) ≡ w ∷ words_of (b ∷ ys)
word_then w b ys some solid is =
    parted w b ys is ∙ ap (λ (ws : List Word). ws ++ words_of ys) (one_word w some solid)
    ∙ ap (λ (ws : List Word). w ∷ ws) (sym (parted [] b ys is))

ends_with : (front : List ℕ) (b : ℕ) (ys : List ℕ) → is_blank b ≡ true → words_of ((front ++ b ∷ []) ++ ys) ≡ words_of (front ++ b ∷ []) ++ words_of ys
ends_with front b ys is =
    ap words_of (append_assoc front (b ∷ []) ys) ∙ parted front b ys is
    ∙ ap (λ (ws : List Word). ws ++ words_of ys) (sym (parted front b [] is ∙ append-nil (words_of front)))

-- a text that is cut after a blank, or before its first byte
pub cut_behind : (text more : List ℕ) (n : ℕ) → n ≤ length text → (0 < n → is_blank (get_or text (n - 1) 0) ≡ true) → words_of (text ++ more) ≡ words_of (take n text) ++ words_of (drop n text ++ more)
cut_behind text more zero within blank = refl
cut_behind text more (suc n) within blank =
    let before : n < length text = omega (arith, within) in
    let at : suc n - 1 ≡ n = omega arith in
    let is : is_blank (get_or text n 0) ≡ true = subst (λ (k : ℕ). is_blank (get_or text k 0) ≡ true) at (blank (omega arith)) in
    let one : n + 1 ≡ suc n = omega arith in
    let front : take (suc n) text ≡ take n text ++ get_or text n 0 ∷ [] = ap (λ (k : ℕ). take k text) (sym one) ∙ take_more text n 0 before in
    ap words_of (ap (λ (xs : List ℕ). xs ++ more) (sym (take-append-drop (suc n) text)) ∙ append_assoc (take (suc n) text) (drop (suc n) text) more ∙ ap (λ (xs : List ℕ). xs ++ (drop (suc n) text ++ more)) front)
    ∙ ends_with (take n text) (get_or text n 0) (drop (suc n) text ++ more) is
    ∙ sym (ap (λ (xs : List ℕ). words_of xs ++ words_of (drop (suc n) text ++ more)) front)

-- the bytes before the first blank are solid
pub before_blank : (xs : List ℕ) → IsSolid (take (position_or_len is_blank xs) xs)
before_blank [] = refl
before_blank (x ∷ xs) = elim (is_blank x) as (λ t. is_blank x ≡ t → IsSolid (take (cond (not t) (1 + position_or_len is_blank xs) 0) (x ∷ xs))) [
  | true ↦ λ _. refl
  | false ↦ λ here. (let one : 1 + position_or_len is_blank xs ≡ suc (position_or_len is_blank xs) = omega arith in rw (one, here) (before_blank xs))
] refl

-- and a blank follows, where a byte does
pub at_blank : (xs : List ℕ) (b : ℕ) (ys : List ℕ) → drop (position_or_len is_blank xs) xs ≡ b ∷ ys → is_blank b ≡ true
at_blank [] b ys is = cc
at_blank (x ∷ xs) b ys is = elim (is_blank x) as (λ t. is_blank x ≡ t → drop (cond (not t) (1 + position_or_len is_blank xs) 0) (x ∷ xs) ≡ b ∷ ys → is_blank b ≡ true) [
  | true ↦ λ here e. (let same : x ≡ b = cc in ap is_blank (sym same) ∙ here)
  | false ↦ λ here e. (let one : 1 + position_or_len is_blank xs ≡ suc (position_or_len is_blank xs) = omega arith in at_blank xs b ys (rw one at e))
] refl is

pub solid_append : (xs ys : List ℕ) → IsSolid xs → IsSolid ys → IsSolid (xs ++ ys)
solid_append [] ys first second = second
solid_append (x ∷ xs) ys first second = elim (is_blank x) as (λ t. (t || list_any is_blank xs) ≡ false → (t || list_any is_blank (xs ++ ys)) ≡ false) [
  | true ↦ λ e. absurd (false≢true (sym e))
  | false ↦ λ e. solid_append xs ys e second
] first

-- a blank after bytes parts them from what follows it
pub before : (xs : List ℕ) (b : ℕ) (ys : List ℕ) → is_blank b ≡ true → words_of (xs ++ b ∷ ys) ≡ words_of xs ++ words_of (b ∷ ys)
before xs b ys is = parted xs b ys is ∙ ap (λ (ws : List Word). words_of xs ++ ws) (sym (parted [] b ys is))

-- bytes and others, of which none follow or none come first
pub either_none : (xs ys : List ℕ) → (xs ≡ []) ⊎ (ys ≡ []) → words_of (xs ++ ys) ≡ words_of xs ++ words_of ys
either_none xs ys none = elim none [
  | inl first ↦ rw first refl
  | inr second ↦ rw second (ap words_of (append-nil xs) ∙ sym (append-nil (words_of xs)))
]

pub position_le : (xs : List ℕ) → position_or_len is_blank xs ≤ length xs
position_le [] = omega arith
position_le (x ∷ xs) = elim (is_blank x) as (λ t. cond (not t) (1 + position_or_len is_blank xs) 0 ≤ length (x ∷ xs)) [
  | true ↦ omega arith
  | false ↦ let more : position_or_len is_blank xs ≤ length xs = position_le xs in omega arith
]

-- a part whose first bytes end the word that is begun
pub regrouped : (begun part end rest more : List ℕ) (n : ℕ) → end ≡ take n part → rest ≡ drop n part → begun ++ (part ++ more) ≡ (begun ++ end) ++ (rest ++ more)
regrouped begun part end rest more n front back =
    ap (λ (p : List ℕ). begun ++ (p ++ more)) (sym (take-append-drop n part) ∙ ap (λ (e : List ℕ). e ++ drop n part) (sym front) ∙ ap (λ (r : List ℕ). end ++ r) (sym back))
    ∙ ap (λ (p : List ℕ). begun ++ p) (append_assoc end rest more)
    ∙ sym (append_assoc begun end (rest ++ more))

abbrev nothing : List ℕ
nothing = []

take-nil : (n : ℕ) → take n nothing ≡ nothing
take-nil zero = refl
take-nil (suc n) = refl

drop-nil : (n : ℕ) → drop n nothing ≡ nothing
drop-nil zero = refl
drop-nil (suc n) = refl

pub some_bytes : (xs : List ℕ) → length xs ≢ 0 → (b : ℕ) × (ys : List ℕ) × (xs ≡ b ∷ ys)
some_bytes [] some = absurd (some refl)
some_bytes (b ∷ ys) some = (b, ys, refl)

-- the words up to the last blank, and what is after it
pub cut_words : (begun rest more whole behind : List ℕ) (n : ℕ) → (begun ≡ []) ⊎ (rest ≡ []) → n ≤ length rest → (0 < n → is_blank (get_or rest (n - 1) 0) ≡ true) → whole ≡ take n rest → behind ≡ drop n rest
    → words_of (begun ++ (rest ++ more)) ≡ words_of whole ++ words_of ((begun ++ behind) ++ more)
cut_words begun rest more whole behind n one within blank front back = elim one [
  | inl none ↦ rw (none, front, back) (cut_behind rest more n within blank)
  | inr none ↦ rw (front, back, none, take-nil n, drop-nil n, append-nil begun) refl
]

-- what is so where memory was there for the bytes
pub extended : {A E P : Type 0} (r : Result A E) (xs ys new : List ℕ) → new ≡ cond (is_ok r) xs ys → (new ≡ xs → P) → OnOk r P
extended (Ok v) xs ys new is f = f is
extended (Err e) xs ys new is f = tt
