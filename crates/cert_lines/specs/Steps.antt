-- Which lines are read as steps.
use Rattle.std.specs.Prelude.{ℕ, List, [], ◌∷◌, Bool, false, ◌||◌, ◌==◌}
use Rattle.std.specs.List.{list_all}
use Rattle.lrat_text.specs.Words.{is_blank}

-- the line begins as `end` does, or as a line that lists a set
abbrev pub is_other : List ℕ → Bool
is_other [] = false
is_other (b ∷ bytes) = (b == 101) || ((b == 113) || ((b == 98) || (b == 115)))

-- the first byte is a `c`
abbrev pub is_comment : List ℕ → Bool
is_comment [] = false
is_comment (b ∷ bytes) = b == 99

-- spaces and tabs alone, so that there is no word
abbrev pub is_wordless : List ℕ → Bool
is_wordless text = list_all is_blank text

-- a comment, whatever its bytes, or a line without a word
abbrev pub is_passed_over : List ℕ → Bool
is_passed_over text = is_comment text || is_wordless text
