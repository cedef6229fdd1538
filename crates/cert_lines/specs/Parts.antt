-- Parts of lines.
use Rattle.std.specs.Prelude.{◌≢◌, ℕ, ◌<◌, List, ◌++◌, length, slice_index}
use Rattle.cert_lines.specs.Lines.{Lines, tail, line}

-- the part of a line that was cut off last, and what is unread after it
pub record Piece : Type 0 where
  pub part : List ℕ
  pub unread : List ℕ

-- none of the bytes is a line feed
abbrev pub IsFeedless : List ℕ → Type 0
IsFeedless bytes = (k : ℕ) → k < length bytes → slice_index bytes k ≢ 10

-- the lines of these bytes without a line feed and of what follows
abbrev pub with_front : List ℕ → Lines → Lines
with_front front (tail bytes) = tail (front ++ bytes)
with_front front (line text more) = line (front ++ text) more
