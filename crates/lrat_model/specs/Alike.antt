-- Lists of literals as sets.
use Rattle.std.specs.Prelude.{◌≡◌, List}
use Rattle.lrat_model.specs.Literal.{Literal, has}

-- both have the same literals
abbrev pub Alike : List Literal → List Literal → Type 0
Alike xs ys = (l : Literal) → has xs l ≡ has ys l
