-- A number of the command line, read as the library reads digits.
use Rattle.std.proofs.Common.{rules, ◌≡◌, ℕ, ◌<◌, ◌^◌, List, [], ◌∷◌, length, Bool, true, ◌&&◌, Some, None, Result, Err, cond, subst, arith}
use Rattle.std.specs.List.{list_all}
use Rattle.std.specs.Char.{is_ascii_digit}
use Rattle.std.specs.Str.Parse.{digits_value, ParsesUnsigned}
use Rattle.std.specs.Result.{OkIff}
use Rattle.std.proofs.lemmas.Bool.{false≢true, and_parts}
use Rattle.std.proofs.lemmas.Bool.Decides.{nat_tests}
use Rattle.std.proofs.lemmas.Str.Parse.{IsNumeralModel, numerals_by_value, parse_digits}
use Rattle.cli_words.specs.Numbers.{is_number, is_between, number_between}

own : IsNumeralModel (λ ds. list_all is_ascii_digit ds ≡ true) (digits_value 10)
own = numerals_by_value _ (search rules)

-- what a number is
record IsNumber (text : List ℕ) : Type 0 where
  digits : list_all is_ascii_digit text ≡ true
  long : 0 < length text

from_number : (text : List ℕ) → is_number text ≡ true → IsNumber text
from_number [] e = absurd (false≢true e)
from_number (first ∷ rest) e =
    let both : _ = and_parts _ _ e in
    record { digits = both.0; long = omega arith }

above : (b : Bool) (v least most : ℕ) → most < v → cond (b && is_between least most v) (Some v) None ≡ None
above b v least most h = grind (arith, nat_tests)

-- digits that the library does not read are those of a greater number
pub parsed_none : {E : Type 0} (least most : ℕ) (text : List ℕ) (r : Result ℕ E) (fault : E) → most < 2 ^ 64 → is_number text ≡ true → ParsesUnsigned 64 10 text r → r ≡ Err fault → number_between least most text ≡ None
parsed_none least most text r fault small e h is =
    let k : OkIff r ((0 < length text) × (digits_value 10 text < 2 ^ 64)) (digits_value 10 text) = parse_digits own 64 text r h (from_number text e).digits in
    let n : OkIff (Err fault) ((0 < length text) × (digits_value 10 text < 2 ^ 64)) (digits_value 10 text) = subst (λ q. OkIff q ((0 < length text) × (digits_value 10 text < 2 ^ 64)) (digits_value 10 text)) is k in
    let m : digits_value 10 text < 2 ^ 64 → ⊥ = λ s. n ((from_number text e).long, s) in
    above (is_number text) (digits_value 10 text) least most (omega arith)
