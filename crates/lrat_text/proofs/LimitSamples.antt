-- The limits as numbers: another number in the code is another promise, and is refused here.
use Rattle.std.proofs.Common.{◌≡◌, ◌/◌, refl}
use Rattle.lrat_text.specs.declared.numbers.TheConstants.{MOST_ID, MOST_TENTH, MOST_VARIABLE}
use Rattle.lrat_text.specs.declared.writing.TheConstants.{WORD}

id : MOST_ID ≡ 9223372036854775807
id = refl

variable : MOST_VARIABLE ≡ 2147483647
variable = refl

-- a tenth of the greatest id: after it no digit is put
tenth : MOST_TENTH ≡ MOST_ID / 10
tenth = refl

-- the longest number with its sign
word : WORD ≡ 21
word = refl
