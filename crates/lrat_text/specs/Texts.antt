-- The line that says a step.
use Rattle.std.specs.Prelude.{ℕ, suc, List, [], ◌∷◌, ◌++◌, ◌<◌, map, codes, ℤ, pos, negsuc}
use Rattle.std.specs.List.{join_with_byte, AllByRecursion}
use Rattle.std.specs.Fmt.{decimal, signed_decimal}
use Rattle.lrat_model.specs.Literal.{Literal, number_of, variable_of}
use Rattle.lrat_model.specs.Steps.{ProofStep, Addition, Deletion}
use Rattle.lrat_text.specs.declared.numbers.TheConstants.{MOST_ID, MOST_VARIABLE}
use Rattle.lrat_text.specs.Words.{Word}

-- the number of a literal, in digits
abbrev pub literal_text : Literal → Word
literal_text l = signed_decimal (number_of l)

-- the words of a step
abbrev pub words_for : ProofStep → List Word
words_for (Addition id lits hints) = decimal id ∷ (map literal_text lits ++ codes "0" ∷ (map signed_decimal hints ++ codes "0" ∷ []))
words_for (Deletion id ids) = decimal id ∷ codes "d" ∷ (map decimal ids ++ codes "0" ∷ [])

-- the line of a step: its words with one space between them
abbrev pub line_of : ProofStep → List ℕ
line_of step = join_with_byte 32 (words_for step)

-- from 1 to the greatest id
abbrev pub IsId : ℕ → Type 0
IsId id = (0 < id) × (id < suc MOST_ID)

-- an id, or its negation
abbrev pub IsHint : ℤ → Type 0
IsHint (pos n) = IsId n
IsHint (negsuc n) = n < MOST_ID

-- a variable from 1 to the greatest, or its negation
abbrev pub IsLiteral : Literal → Type 0
IsLiteral l = (0 < variable_of l) × (variable_of l < suc MOST_VARIABLE)

-- the numbers of a step other than literals are in range
abbrev pub HasNumbers : ProofStep → Type 0
HasNumbers (Addition id lits hints) = IsId id × AllByRecursion IsHint hints
HasNumbers (Deletion id ids) = IsId id × AllByRecursion IsId ids

abbrev pub HasLiterals : ProofStep → Type 0
HasLiterals (Addition id lits hints) = AllByRecursion IsLiteral lits
HasLiterals (Deletion id ids) = Unit {0}
