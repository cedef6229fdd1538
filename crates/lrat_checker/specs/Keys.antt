-- Numbers for literals and for lists of them.
use Rattle.std.specs.Prelude.{ℕ, ◌+◌, ◌*◌, ◌/◌, ◌%◌, ◌^◌, List, bit_or}
use Rattle.std.specs.List.{fold}
use Rattle.lrat_model.specs.Literal.{Literal, Plus, Minus}

-- a literal as a number
abbrev pub code_of : Literal → ℕ
code_of (Plus x) = 2 * x
code_of (Minus x) = 2 * x + 1

-- one of 64 bits for a literal, whose codes are spread over them
abbrev pub bit_of : Literal → ℕ
bit_of l = 2 ^ (code_of l * 11400714819323198485 % 2 ^ 64 / 2 ^ 58)

-- the bits of the literals
abbrev pub signature_of : List Literal → ℕ
signature_of literals = fold (λ bits l. bit_or bits (bit_of l)) 0 literals

-- the slot of a code
abbrev pub slot_of : ℕ → ℕ → ℕ
slot_of slots code = code % slots
