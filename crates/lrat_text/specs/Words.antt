-- The words of a line: what stands between spaces and tabs.
use Rattle.std.specs.Prelude.{ℕ, List, [], ◌∷◌, Bool, true, false, ◌==◌, ◌||◌, filter}
use Rattle.std.specs.List.{slice_split}

abbrev pub Word : Type 0
Word = List ℕ

-- a space or a tab
abbrev pub is_blank : ℕ → Bool
is_blank byte = (byte == 32) || (byte == 9)

abbrev pub has_byte : Word → Bool
has_byte [] = false
has_byte (byte ∷ word) = true

-- the parts between blanks that have a byte
abbrev pub words_of : List ℕ → List Word
words_of line = filter has_byte (slice_split is_blank line)
