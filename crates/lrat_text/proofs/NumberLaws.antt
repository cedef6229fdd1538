-- Numbers, read as the library reads digits.
use Rattle.std.proofs.Common.{rules, ◌≡◌, ℕ, zero, suc, ◌<◌, ◌^◌, List, [], ◌∷◌, length, get_or, Bool, true, ◌&&◌, nat_le, Some, None, Result, Ok, Err, cond, sym, ◌∙◌, ap, subst, arith}
use Rattle.std.specs.List.{list_all}
use Rattle.std.specs.Char.{is_ascii_digit}
use Rattle.std.specs.Str.{IsUtf8}
use Rattle.std.specs.Str.Parse.{digits_value, ParsesUnsigned}
use Rattle.std.specs.Result.{OkIff}
use Rattle.std.specs.Fmt.{decimal}
use Rattle.std.proofs.lemmas.Bool.{false≢true, and_parts}
use Rattle.std.proofs.lemmas.Bool.Decides.{nat_tests}
use Rattle.std.proofs.lemmas.Str.{IsUtf8-from_ascii}
use Rattle.std.proofs.lemmas.Str.Parse.{IsNumeralModel, numerals_by_value, parse_digits}
use Rattle.std.proofs.lemmas.Fmt.{IsAscii-from_digits, decimal-digits_value, decimal_digit}
use borrow.Author.Tests.{ltb-true}
use Rattle.lrat_text.specs.Words.{Word}
use Rattle.lrat_text.specs.Numbers.{is_numeral, positive_in}

pub own : IsNumeralModel (λ ds. list_all is_ascii_digit ds ≡ true) (digits_value 10)
own = numerals_by_value _ (search rules)

-- what a numeral is
pub record IsNumber (word : Word) : Type 0 where
  pub digits : list_all is_ascii_digit word ≡ true
  pub first : 48 < get_or word 0 0
  pub long : 0 < length word

pub from_numeral : (word : Word) → is_numeral word ≡ true → IsNumber word
from_numeral [] e = absurd (false≢true e)
from_numeral (d ∷ word) e =
    let both : _ = and_parts _ _ e in
    record { digits = both.1; first = ltb-true 48 d both.0; long = omega arith }

pub numeral_utf8 : (word : Word) → is_numeral word ≡ true → IsUtf8 word
numeral_utf8 word e = IsUtf8-from_ascii word (IsAscii-from_digits word (own.to word (from_numeral word e).digits))

above : (b : Bool) (v most : ℕ) → most < v → cond (b && nat_le v most) (Some v) None ≡ None
above b v most h = grind (arith, nat_tests)

parsed : {E : Type 0} (word digits : List ℕ) (r : Result ℕ E) → is_numeral word ≡ true → digits ≡ word → ParsesUnsigned 64 10 digits r → OkIff r ((0 < length word) × (digits_value 10 word < 2 ^ 64)) (digits_value 10 word)
parsed word digits r e same h = parse_digits own 64 word r (subst (λ d. ParsesUnsigned 64 10 d r) same h) (from_numeral word e).digits

-- digits that the library does not read are those of a greater number
pub parsed_none : {E : Type 0} (most : ℕ) (word digits : List ℕ) (r : Result ℕ E) (fault : E) → most < 2 ^ 64 → is_numeral word ≡ true → digits ≡ word → ParsesUnsigned 64 10 digits r → r ≡ Err fault → positive_in most word ≡ None
parsed_none most word digits r fault small e same h is =
    let k : OkIff r ((0 < length word) × (digits_value 10 word < 2 ^ 64)) (digits_value 10 word) = parsed word digits r e same h in
    let n : OkIff (Err fault) ((0 < length word) × (digits_value 10 word < 2 ^ 64)) (digits_value 10 word) = subst (λ q. OkIff q ((0 < length word) × (digits_value 10 word < 2 ^ 64)) (digits_value 10 word)) is k in
    let m : digits_value 10 word < 2 ^ 64 → ⊥ = λ s. n ((from_numeral word e).long, s) in
    above (is_numeral word) (digits_value 10 word) most (omega arith)

pub no_zero : (word : Word) → IsNumber word → digits_value 10 word ≡ 0 → ⊥
no_zero word is z =
    let text : decimal (digits_value 10 word) ≡ word = decimal-digits_value own word is.digits is.long (λ h. absurd (let f : 48 < get_or word 0 0 = is.first in omega arith)) (rw z (omega arith)) in
    let first : get_or word 0 0 ≡ 48 = ap (λ w. get_or w 0 0) (sym text ∙ ap decimal z ∙ decimal_digit 0 (omega arith)) in
    let f : 48 < get_or word 0 0 = is.first in
    omega arith

-- digits of which the first is not 0 say no 0
pub parsed_positive : {E : Type 0} (word digits : List ℕ) (r : Result ℕ E) (n : ℕ) → is_numeral word ≡ true → digits ≡ word → ParsesUnsigned 64 10 digits r → r ≡ Ok n → 0 < n
parsed_positive {E} word digits r zero e same h is =
    let k : OkIff {E = E} (Ok zero) ((0 < length word) × (digits_value 10 word < 2 ^ 64)) (digits_value 10 word) = subst (λ q. OkIff q ((0 < length word) × (digits_value 10 word < 2 ^ 64)) (digits_value 10 word)) is (parsed word digits r e same h) in
    absurd (no_zero word (from_numeral word e) (sym k.1))
parsed_positive {E} word digits r (suc n) e same h is = omega arith
