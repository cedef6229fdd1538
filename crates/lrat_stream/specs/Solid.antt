-- Bytes of one word.
use Rattle.std.specs.Prelude.{◌≡◌, ℕ, List, false}
use Rattle.std.specs.List.{list_any}
use Rattle.lrat_text.specs.Words.{is_blank}

-- none of the bytes is a blank
abbrev pub IsSolid : List ℕ → Type 0
IsSolid bytes = list_any is_blank bytes ≡ false
