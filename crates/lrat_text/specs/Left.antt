-- What is left to write of a step.
use Rattle.std.specs.Prelude.{ℕ, List, [], ◌∷◌, ◌++◌, map, codes, ℤ}
use Rattle.std.specs.Fmt.{decimal, signed_decimal}
use Rattle.lrat_text.specs.Words.{Word}
use Rattle.lrat_text.specs.Texts.{literal_text}
use Rattle.lrat_text.specs.Lent.{lent_hints}
use Rattle.lrat_text.specs.declared.writing.Left.{Left}
use Rattle.lrat_text.specs.declared.writing.Left.TheVariants.{Literals, Hints, Mark, Ids, Nothing}

abbrev pub hints_left : List ℤ → List Word
hints_left hints = map signed_decimal hints ++ codes "0" ∷ []

abbrev pub ids_left : List ℕ → List Word
ids_left ids = map decimal ids ++ codes "0" ∷ []

-- the words that are left
abbrev pub words_left : Left → List Word
words_left (Literals lits hints) = map literal_text lits.now ++ codes "0" ∷ hints_left (lent_hints hints)
words_left (Hints hints) = hints_left (lent_hints hints)
words_left (Mark ids) = codes "d" ∷ ids_left ids.now
words_left (Ids ids) = ids_left ids.now
words_left Nothing = []

-- words with a space before each
abbrev pub spaced : List Word → List ℕ
spaced [] = []
spaced (word ∷ words) = 32 ∷ (word ++ spaced words)
