-- The number that a word of a step line says.
use Rattle.std.specs.Prelude.{◌≡◌, ◌<◌, ◌≤◌, ℕ, ℤ, pos, List, Option, Some, length, take, slice_index, true, if◌then◌else◌}
use Rattle.lrat_text.specs.Words.{Word, is_blank}
use Rattle.lrat_text.specs.Numbers.{hint_in}
use Rattle.lrat_text.specs.Lines.{is_zero}
use Rattle.lrat_stream.specs.Solid.{IsSolid}

-- 0, which closes a list, or a hint
abbrev pub said : Word → Option ℤ
said word = if is_zero word then Some (pos 0) else hint_in word

-- this many bytes at the front are a word that says this
pub record IsFront {A : Type 0} (said_in : Word → Option A) (text : List ℕ) (number : A) (len : ℕ) : Type 0 where
  pub some : 0 < len
  pub within : len ≤ length text
  pub solid : IsSolid (take len text)
  pub ends : len < length text → is_blank (slice_index text len) ≡ true
  pub said : said_in (take len text) ≡ Some number
