-- Trails that grow.
use Rattle.std.specs.Prelude.{◌≡◌, List, ◌++◌}
use Rattle.lrat_model.specs.Literal.{Literal}

-- literals were made true after those that were
abbrev pub Extends : List Literal → List Literal → Type 0
Extends old new = (more : List Literal) × (new ≡ old ++ more)
