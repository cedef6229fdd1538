-- The numbers that words say.
use Rattle.std.proofs.Common.{◌≡◌, ℕ, zero, suc, ◌+◌, ◌*◌, ◌-◌, ◌<◌, ◌≤◌, List, [], ◌∷◌, ◌++◌, length, get_or, take, drop, Bool, true, false, ◌&&◌, cond, Option, Some, None, ℤ, pos, refl, sym, ap, ◌∙◌, subst, arith, take-append-drop, length-drop, append-nil}
use Rattle.std.specs.Prelude.{◌==◌, nat_eq, nat_le, nat_lt, neg_ℤ, option_map}
use Rattle.std.specs.List.{list_all, position_or_len}
use Rattle.std.specs.Char.{is_ascii_digit, digit_value}
use Rattle.std.specs.Str.Parse.{digits_value}
use Rattle.std.proofs.lemmas.Bool.{and_parts, le-leb, lt-ltb, ne_eqb}
use Rattle.std.proofs.lemmas.Int.{to_z-of_z}
use borrow.Author.Tests.{ltb-true}
use mir.Syntax.{w64}
use mir.Val.{SFits, of_z, to_z}
use Rattle.std.proofs.lemmas.List.{take_more, drop_more, length-take-le}
use Rattle.std.proofs.lemmas.List.Folds.{list_all-append}
use Rattle.std.proofs.lemmas.Int.Digits.{digits_value_push}
use Rattle.lrat_text.specs.Words.{Word, is_blank, words_of}
use Rattle.lrat_text.specs.Numbers.{id_in, hint_in}
use Rattle.lrat_text.specs.Lines.{is_zero}
use Rattle.lrat_text.proofs.DigitSums.{digit_is, by_digits, above_zero}
use Rattle.lrat_stream.specs.Solid.{IsSolid}
use Rattle.lrat_stream.specs.Said.{said, IsFront}
use Rattle.lrat_stream.proofs.PartLaws.{one_word, word_then, position_le, before_blank, at_blank}

-- digits are no blanks
no_blank : (b : ℕ) → is_ascii_digit b ≡ true → is_blank b ≡ false
no_blank b is =
    let digit = digit_is b is in
    let low : 48 ≤ b = digit.0 in
    rw (ne_eqb b 32 (λ e. absurd (omega (arith, low))), ne_eqb b 9 (λ e. absurd (omega (arith, low)))) refl

pub solid_digits : (w : Word) → list_all is_ascii_digit w ≡ true → IsSolid w
solid_digits [] is = refl
solid_digits (b ∷ w) is =
    let both = and_parts _ _ is in
    rw (no_blank b both.0) (solid_digits w both.1)

-- digits of which the first is not 0 say their value
pub id_of_digits : (w : Word) (n : ℕ) → 48 < get_or w 0 0 → list_all is_ascii_digit w ≡ true → digits_value 10 w ≡ n → n ≤ 9223372036854775807 → id_in w ≡ Some n
id_of_digits [] n first digits value small = absurd (omega (arith, first))
id_of_digits (d ∷ ds) n first digits value small = rw (lt-ltb 48 d first, digits, value, le-leb n 9223372036854775807 small) refl

-- one digit more
pub digits_more : (text : List ℕ) (len b : ℕ) → len < length text → b ≡ get_or text len 0 → is_ascii_digit b ≡ true → list_all is_ascii_digit (take len text) ≡ true → list_all is_ascii_digit (take (len + 1) text) ≡ true
digits_more text len b within here is so_far =
    let digit : is_ascii_digit (get_or text len 0) ≡ true = subst (λ k. is_ascii_digit k ≡ true) here is in
    rw (take_more text len 0 within, list_all-append is_ascii_digit (take len text) (get_or text len 0 ∷ []), so_far, digit) refl

pub value_more : (text : List ℕ) (len b n : ℕ) → len < length text → b ≡ get_or text len 0 → is_ascii_digit b ≡ true → digits_value 10 (take len text) ≡ n → digits_value 10 (take (len + 1) text) ≡ n * 10 + (b - 48)
value_more text len b n within here is so_far =
    ap (digits_value 10) (take_more text len 0 within) ∙ digits_value_push 10 (take len text) (get_or text len 0)
    ∙ ap (λ v. v * 10 + digit_value (get_or text len 0)) so_far
    ∙ ap (λ k. n * 10 + digit_value k) (sym here)
    ∙ ap (λ v. n * 10 + v) (digit_is b is).2

first_digit : (b : ℕ) (w : Word) (n : ℕ) → id_in (b ∷ w) ≡ Some n → 48 < b
first_digit b w n is = elim (nat_lt 48 b) as (λ t. nat_lt 48 b ≡ t → cond ((t && list_all is_ascii_digit (b ∷ w)) && nat_le (digits_value 10 (b ∷ w)) 9223372036854775807) (Some (digits_value 10 (b ∷ w))) None ≡ Some n → 48 < b) [
  | true ↦ λ e _. ltb-true 48 b e
  | false ↦ λ _ e. cc
] refl is

-- an id is a hint, and closes no list
pub said_id : (w : Word) (n : ℕ) → id_in w ≡ Some n → said w ≡ Some (pos n)
said_id [] n is = cc
said_id (b ∷ w) n is =
    let first : 48 < b = first_digit b w n is in
    rw (ne_eqb b 48 (λ e. absurd (omega (arith, first))), ne_eqb b 45 (λ e. absurd (omega (arith, first)))) (ap (option_map pos) is)

-- and with a `-` before it the minus of it
pub said_minus : (w : Word) (n : ℕ) → id_in w ≡ Some n → said (45 ∷ w) ≡ Some (neg_ℤ (pos n))
said_minus w n is = ap (option_map (λ n. neg_ℤ (pos n))) is

first_taken : (text : List ℕ) (len : ℕ) → 0 < len → 48 < get_or text 0 0 → 48 < get_or (take len text) 0 0
first_taken [] len some first = absurd (omega (arith, first))
first_taken (d ∷ ds) zero some first = absurd (omega (arith, some))
first_taken (d ∷ ds) (suc len) some first = first

-- digits at the front of a text
pub front_of_digits : (text : List ℕ) (n len : ℕ) → 0 < len → len ≤ length text → 48 < get_or text 0 0 → list_all is_ascii_digit (take len text) ≡ true → digits_value 10 (take len text) ≡ n → n ≤ 9223372036854775807 → (len < length text → is_blank (get_or text len 0) ≡ true) → IsFront id_in text n len
front_of_digits text n len some within first digits value small ends = record {
  some = some;
  within = within;
  solid = solid_digits (take len text) digits;
  ends = ends;
  said = id_of_digits (take len text) n (first_taken text len some first) digits value small;
}

-- an id at the front is the number said
pub front_of_id : (text : List ℕ) (n len : ℕ) → IsFront id_in text n len → IsFront said text (pos n) len
front_of_id text n len is = record { some = is.some; within = is.within; solid = is.solid; ends = is.ends; said = said_id (take len text) n is.said }

-- and after a `-` its minus is
pub front_of_minus : (text digits : List ℕ) (n len : ℕ) (z : ℤ) → text ≡ 45 ∷ digits → z ≡ neg_ℤ (pos n) → IsFront id_in digits n len → IsFront said text z (len + 1)
front_of_minus text digits n len z whole value is =
    let one : suc len ≡ len + 1 = omega arith in
    let more : IsFront said (45 ∷ digits) (neg_ℤ (pos n)) (suc len) = record { some = omega arith; within = omega (arith, is.within); solid = is.solid; ends = λ less. is.ends (omega (arith, less)); said = said_minus (take len digits) n is.said } in
    subst (λ k. IsFront said text z k) one (subst (λ (t : List ℕ). IsFront said t z (suc len)) (sym whole) (subst (λ y. IsFront said (45 ∷ digits) y (suc len)) (sym value) more))

-- no number is 0
some_digit : (v : Word) (n : ℕ) → id_in v ≡ Some n → 0 < n
some_digit [] n is = cc
some_digit (d ∷ ds) n is =
    let first : 48 < d = first_digit d ds n is in
    above_zero 9223372036854775807 (d ∷ ds) n first (sym is ∙ by_digits 9223372036854775807 (d ∷ ds) first)

plus_zero : (o : Option ℕ) → ((n : ℕ) → o ≡ Some n → 0 < n) → option_map pos o ≡ Some (pos 0) → ⊥
plus_zero None some is = cc
plus_zero (Some zero) some is = omega (arith, some zero refl)
plus_zero (Some (suc n)) some is = cc

minus_zero : (o : Option ℕ) → ((n : ℕ) → o ≡ Some n → 0 < n) → option_map (λ n. neg_ℤ (pos n)) o ≡ Some (pos 0) → ⊥
minus_zero None some is = cc
minus_zero (Some zero) some is = omega (arith, some zero refl)
minus_zero (Some (suc n)) some is = cc

no_zero : (w : Word) → hint_in w ≡ Some (pos 0) → ⊥
no_zero [] is = cc
no_zero (b ∷ w) is = elim (b == 45) as (λ t. cond t (option_map (λ n. neg_ℤ (pos n)) (id_in w)) (option_map pos (id_in (b ∷ w))) ≡ Some (pos 0) → ⊥) [
  | true ↦ minus_zero (id_in w) (some_digit w)
  | false ↦ plus_zero (id_in (b ∷ w)) (some_digit (b ∷ w))
] is

-- the test for 0
pub zero_test : (w : Word) (n : ℤ) → SFits w64 n → said w ≡ Some n → nat_eq (of_z w64 n) 0 ≡ is_zero w
zero_test w n fits is = elim (is_zero w) as (λ t. cond t (Some (pos 0)) (hint_in w) ≡ Some n → nat_eq (of_z w64 n) 0 ≡ t) [
  | true ↦ λ e. (let same : pos 0 ≡ n = cc in subst (λ k. nat_eq (of_z w64 k) 0 ≡ true) same refl)
  | false ↦ λ e. ne_eqb (of_z w64 n) 0 (λ none. no_zero w (e ∙ ap Some (sym (to_z-of_z w64 n fits) ∙ ap (to_z w64) none)))
] is

joined : (bytes behind : List ℕ) → 0 < length bytes → IsSolid bytes → ((b : ℕ) (ys : List ℕ) → behind ≡ b ∷ ys → is_blank b ≡ true) → words_of (bytes ++ behind) ≡ bytes ∷ words_of behind
joined bytes [] some solid ends = ap words_of (append-nil bytes) ∙ one_word bytes some solid
joined bytes (b ∷ ys) some solid ends = word_then bytes b ys some solid (ends b ys refl)

at_end : (text behind : List ℕ) (b : ℕ) (ys : List ℕ) (n : ℕ) → behind ≡ drop n text → behind ≡ b ∷ ys → (n < length text → is_blank (get_or text n 0) ≡ true) → is_blank b ≡ true
at_end text behind b ys n back e ends =
    let cut : drop n text ≡ b ∷ ys = sym back ∙ e in
    let within : n < length text = omega (arith, length-drop n text, ap length cut) in
    let split : drop n text ≡ get_or text n 0 ∷ drop (n + 1) text = drop_more text n 0 within in
    let same : get_or text n 0 ≡ b = cc in
    subst (λ k. is_blank k ≡ true) same (ends within)

-- a word at the front of a text
pub front_words : (text bytes behind rest : List ℕ) (n : ℕ) → 0 < n → n ≤ length text → IsSolid (take n text) → bytes ≡ take n text → behind ≡ drop n text → words_of rest ≡ words_of behind → (n < length text → is_blank (get_or text n 0) ≡ true) → words_of text ≡ bytes ∷ words_of rest
front_words text bytes behind rest n some within solid front back same ends =
    let long : 0 < length bytes = subst (λ (xs : List ℕ). 0 < length xs) (sym front) (omega (arith, some, length-take-le n text within)) in
    let is_solid : IsSolid bytes = subst IsSolid (sym front) solid in
    let whole : text ≡ bytes ++ behind = sym (take-append-drop n text) ∙ ap (λ (xs : List ℕ). xs ++ drop n text) (sym front) ∙ ap (λ (ys : List ℕ). bytes ++ ys) (sym back) in
    ap words_of whole ∙ joined bytes behind long is_solid (λ b ys e. at_end text behind b ys n back e ends) ∙ ap (λ (ws : List Word). bytes ∷ ws) (sym same)

-- the first word of a line that begins with none of its blanks
pub first_word : (line word rest : List ℕ) (n : ℕ) → n ≡ position_or_len is_blank line → 0 < length line → is_blank (get_or line 0 0) ≡ false → word ≡ take n line → rest ≡ drop n line → words_of line ≡ word ∷ words_of rest
first_word line word rest n here some solid front back =
    front_words line word rest rest n (subst (λ k. 0 < k) (sym here) (some_bytes line some solid)) (subst (λ k. k ≤ length line) (sym here) (position_le line))
    (subst (λ k. IsSolid (take k line)) (sym here) (before_blank line)) front back refl
    (λ within. at_blank line (get_or line n 0) (drop (n + 1) line) (ap (λ k. drop k line) (sym here) ∙ drop_more line n 0 within)) where
      some_bytes : (xs : List ℕ) → 0 < length xs → is_blank (get_or xs 0 0) ≡ false → 0 < position_or_len is_blank xs
      some_bytes [] some solid = some
      some_bytes (x ∷ xs) some solid = rw solid (omega arith)

-- a blank ends the first word
pub blank_behind : (line rest : List ℕ) (n : ℕ) → n ≡ position_or_len is_blank line → rest ≡ drop n line → 0 < length rest → is_blank (get_or rest 0 0) ≡ true
blank_behind line [] n here back some = absurd (omega (arith, some))
blank_behind line (b ∷ ys) n here back some = at_blank line b ys (ap (λ k. drop k line) (sym here) ∙ sym back)
