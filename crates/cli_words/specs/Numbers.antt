-- The numbers that a command line gives.
use Rattle.std.specs.Prelude.{ℕ, List, [], ◌∷◌, Bool, false, ◌&&◌, ◌||◌, ◌==◌, nat_lt, nat_le, length, Option, Some, None, if◌then◌else◌}
use Rattle.std.specs.List.{list_all}
use Rattle.std.specs.Char.{is_ascii_digit}
use Rattle.std.specs.Str.Parse.{digits_value}

-- decimal digits, of which the first is 0 only where it stands alone
abbrev pub is_number : List ℕ → Bool
is_number [] = false
is_number (first ∷ rest) = list_all is_ascii_digit (first ∷ rest) && (nat_lt 48 first || length (first ∷ rest) == 1)

-- whether a number lies from one bound to another
abbrev pub is_between : ℕ → ℕ → ℕ → Bool
is_between least most n = nat_le least n && nat_le n most

-- the number that a text says, if it is one and lies between these bounds
abbrev pub number_between : ℕ → ℕ → List ℕ → Option ℕ
number_between least most text = if is_number text && is_between least most (digits_value 10 text) then Some (digits_value 10 text) else None
