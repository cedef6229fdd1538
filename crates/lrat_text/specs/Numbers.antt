-- The numbers of a step line. None of them is 0, which only closes a list.
use Rattle.std.specs.Prelude.{◌≡◌, ℕ, slice_index, true, [], ◌∷◌, Bool, false, ◌&&◌, ◌==◌, nat_le, nat_lt, Option, Some, None, option_map, ℤ, pos, neg_ℤ, if◌then◌else◌}
use Rattle.std.specs.List.{list_all}
use Rattle.std.specs.Char.{is_ascii_digit}
use Rattle.std.specs.Str.Parse.{digits_value}
use Rattle.lrat_model.specs.Literal.{Literal, Plus, Minus}
use Rattle.lrat_text.specs.declared.numbers.TheConstants.{MOST_ID, MOST_VARIABLE}
use Rattle.lrat_text.specs.Words.{Word}

-- the number that decimal digits say, if it is not above this one
abbrev pub digits_in : ℕ → Word → Option ℕ
digits_in most word = if list_all is_ascii_digit word && nat_le (digits_value 10 word) most then Some (digits_value 10 word) else None

-- decimal digits, of which the first is not 0
abbrev pub is_numeral : Word → Bool
is_numeral [] = false
is_numeral (digit ∷ digits) = nat_lt 48 digit && list_all is_ascii_digit (digit ∷ digits)

-- the number that a word says with such digits, if it is not above this one
abbrev pub positive_in : ℕ → Word → Option ℕ
positive_in most word = if is_numeral word && nat_le (digits_value 10 word) most then Some (digits_value 10 word) else None

-- the same where a `-` before the digits is the minus of a number, and no sign its plus
abbrev pub signed_in : {A : Type 0} → (ℕ → A) → (ℕ → A) → ℕ → Word → Option A
signed_in plus minus most [] = None
signed_in plus minus most (byte ∷ word) =
    if byte == 45 then option_map minus (positive_in most word) else option_map plus (positive_in most (byte ∷ word))

-- whether a `-` comes first, and the word without it
abbrev pub IsSigned : Word → Bool → Word → Type 0
IsSigned word true digits = word ≡ 45 ∷ digits
IsSigned word false digits = (digits ≡ word) × ((slice_index word 0 == 45) ≡ false)

-- an id: from 1 on
abbrev pub id_in : Word → Option ℕ
id_in word = positive_in MOST_ID word

-- a hint: an id, or its negation
abbrev pub hint_in : Word → Option ℤ
hint_in word = signed_in pos (λ n. neg_ℤ (pos n)) MOST_ID word

-- a literal: a variable, or its negation
abbrev pub literal_in : Word → Option Literal
literal_in word = signed_in Plus Minus MOST_VARIABLE word
