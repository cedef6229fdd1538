-- The texts of numbers, read back.
use Rattle.std.proofs.Common.{◌≡◌, ◌≢◌, ℕ, zero, suc, ◌≤◌, ◌<◌, ◌^◌, [], ◌∷◌, length, get_or, Bool, true, false, ◌&&◌, nat_le, Option, Some, None, cond, refl, ap, arith, option_map, ℤ, pos, negsuc, neg_ℤ}
use Rattle.std.specs.List.{list_all, AllByRecursion}
use Rattle.std.specs.Char.{is_ascii_digit}
use Rattle.std.specs.Str.Parse.{digits_value, AllDigits}
use Rattle.std.specs.Fmt.{decimal, signed_decimal}
use Rattle.std.proofs.lemmas.Bool.{and_from, ne_eqb}
use Rattle.std.proofs.lemmas.Bool.Decides.{nat_tests}
use Rattle.std.proofs.lemmas.Str.Parse.{digit_from_value}
use Rattle.std.proofs.lemmas.Fmt.{decimal_is_IsNumeral, first_decimal}
use Rattle.lrat_model.specs.Literal.{Literal, Plus, Minus}
use Rattle.lrat_text.specs.declared.numbers.TheConstants.{MOST_ID, MOST_VARIABLE}
use Rattle.lrat_text.specs.Words.{Word, is_blank}
use Rattle.lrat_text.specs.Numbers.{is_numeral, positive_in, signed_in, id_in, hint_in, literal_in}
use Rattle.lrat_text.specs.Lines.{is_zero, is_mark}
use Rattle.lrat_text.specs.Texts.{literal_text, IsId, IsHint, IsLiteral}
use Rattle.lrat_text.proofs.NumberLaws.{own}

-- what is known of the text of a number
pub record IsText (word : Word) : Type 0 where
  pub plain : AllByRecursion (λ b. is_blank b ≡ false) word
  pub long : 0 < length word
  pub not_zero : is_zero word ≡ false
  pub not_mark : is_mark word ≡ false

plain_digit : (c : ℕ) → 48 ≤ c → is_blank c ≡ false
plain_digit c h = grind (arith, nat_tests)

plain_digits : (word : Word) → AllDigits 10 word → AllByRecursion (λ b. is_blank b ≡ false) word
plain_digits [] all = tt
plain_digits (c ∷ word) all = (plain_digit c (digit_from_value c all.0).0, plain_digits word all.1)

-- a first byte that is none of the two
first_other : (word : Word) → get_or word 0 0 ≢ 48 → get_or word 0 0 ≢ 100 → (is_zero word ≡ false) × (is_mark word ≡ false)
first_other [] a b = (refl, refl)
first_other (c ∷ word) a b = (rw (ne_eqb c 48 a) refl, rw (ne_eqb c 100 b) refl)

-- the digits of a number that is not 0
pub record IsDecimal (n : ℕ) (word : Word) : Type 0 where
  pub numeral : is_numeral word ≡ true
  pub value : digits_value 10 word ≡ n
  pub text : IsText word
  pub unsigned : get_or word 0 0 ≢ 45

numeral_from : (word : Word) → list_all is_ascii_digit word ≡ true → 48 < get_or word 0 0 → is_numeral word ≡ true
numeral_from [] all h = absurd (omega arith)
numeral_from (c ∷ word) all h = and_from _ _ (grind (arith, nat_tests)) all

digit_first : (word : Word) → AllDigits 10 word → 0 < length word → get_or word 0 0 ≤ 57
digit_first [] all h = omega arith
digit_first (c ∷ word) all h = (digit_from_value c all.0).1

pub decimal_text : (n : ℕ) → 0 < n → n < 2 ^ 64 → IsDecimal n (decimal n)
decimal_text n h s =
    let all : _ = decimal_is_IsNumeral n s in
    let first : 48 < get_or (decimal n) 0 0 = first_decimal n h s in
    let last : get_or (decimal n) 0 0 ≤ 57 = digit_first (decimal n) all.0.1 all.0.0 in
    let other : (is_zero (decimal n) ≡ false) × (is_mark (decimal n) ≡ false) = first_other (decimal n) (λ e. omega arith) (λ e. omega arith) in
    record {
      numeral = numeral_from (decimal n) (own.from (decimal n) all.0.1) first;
      value = all.1;
      text = record { plain = plain_digits (decimal n) all.0.1; long = all.0.0; not_zero = other.0; not_mark = other.1 };
      unsigned = λ e. omega arith;
    }

passes : (b : Bool) (v n most : ℕ) → b ≡ true → v ≡ n → n ≤ most → cond (b && nat_le v most) (Some v) None ≡ Some n
passes b v n most t e h = grind (arith, nat_tests)

pub positive_in-decimal : (most n : ℕ) (word : Word) → IsDecimal n word → n ≤ most → positive_in most word ≡ Some n
positive_in-decimal most n word is h = passes (is_numeral word) (digits_value 10 word) n most is.numeral is.value h

-- with no sign, and with a `-`
signed_in-plus : {A : Type 0} (plus minus : ℕ → A) (most n : ℕ) (word : Word) → IsDecimal n word → n ≤ most → signed_in plus minus most word ≡ Some (plus n)
signed_in-plus plus minus most n [] is h = absurd (let l : 0 < 0 = is.text.long in omega arith)
signed_in-plus plus minus most n (c ∷ word) is h = rw (ne_eqb c 45 is.unsigned) (ap (option_map plus) (positive_in-decimal most n (c ∷ word) is h))

signed_in-minus : {A : Type 0} (plus minus : ℕ → A) (most n : ℕ) (word : Word) → IsDecimal n word → n ≤ most → signed_in plus minus most (45 ∷ word) ≡ Some (minus n)
signed_in-minus plus minus most n word is h = ap (option_map minus) (positive_in-decimal most n word is h)

minus_text : (n : ℕ) (word : Word) → IsDecimal n word → IsText (45 ∷ word)
minus_text n word is = record { plain = (refl, is.text.plain); long = omega arith; not_zero = refl; not_mark = refl }

-- a number that is read back from its text
abbrev pub IsReadBack : {A : Type 0} → (Word → Option A) → (A → Word) → A → Type 0
IsReadBack number_in text a = (number_in (text a) ≡ Some a) × IsText (text a)

pub id_back : (id : ℕ) → IsId id → IsReadBack id_in decimal id
id_back id is = let d : IsDecimal id (decimal id) = decimal_text id is.0 (omega (arith, is.1)) in (positive_in-decimal MOST_ID id (decimal id) d (omega (arith, is.1)), d.text)

pub hint_back : (hint : ℤ) → IsHint hint → IsReadBack hint_in signed_decimal hint
hint_back (pos n) is = let d : IsDecimal n (decimal n) = decimal_text n is.0 (omega (arith, is.1)) in (signed_in-plus pos (λ k. neg_ℤ (pos k)) MOST_ID n (decimal n) d (omega (arith, is.1)), d.text)
hint_back (negsuc n) is =
    let d : IsDecimal (suc n) (decimal (suc n)) = decimal_text (suc n) (omega arith) (omega (arith, is)) in
    (signed_in-minus pos (λ k. neg_ℤ (pos k)) MOST_ID (suc n) (decimal (suc n)) d (omega (arith, is)), minus_text (suc n) (decimal (suc n)) d)

pub literal_back : (l : Literal) → IsLiteral l → IsReadBack literal_in literal_text l
literal_back (Plus n) is = let d : IsDecimal n (decimal n) = decimal_text n is.0 (omega (arith, is.1)) in (signed_in-plus Plus Minus MOST_VARIABLE n (decimal n) d (omega (arith, is.1)), d.text)
literal_back (Minus zero) is = absurd (omega (arith, is.0))
literal_back (Minus (suc n)) is =
    let d : IsDecimal (suc n) (decimal (suc n)) = decimal_text (suc n) (omega arith) (omega (arith, is.1)) in
    (signed_in-minus Plus Minus MOST_VARIABLE (suc n) (decimal (suc n)) d (omega (arith, is.1)), minus_text (suc n) (decimal (suc n)) d)
