-- What the taking of parts of a line makes of the lines that are left.
use Rattle.std.specs.Prelude.{◌≡◌, ℕ, ◌+◌, ◌<◌, ◌≤◌, List, [], ◌++◌, length, Bool, true, false, IsTrue, if◌then◌else◌}
use Rattle.cert_lines.specs.Lines.{Lines, tail, line, lines_of}
use Rattle.cert_lines.specs.Limits.{Unread}
use Rattle.cert_lines.specs.Parts.{with_front}
use Rattle.cert_lines.specs.declared.lines.TheConstants.{MAX_LINE_BYTES}
use Rattle.cert_lines.specs.declared.pieces.LineEnd.{LineEnd}
use Rattle.cert_lines.specs.declared.pieces.LineEnd.TheVariants.{More, Feed, Input}

abbrev pub goes_on : LineEnd → Bool
goes_on More = true
goes_on Feed = false
goes_on Input = false

-- these lines begin with such bytes of a line, and others are left after them
abbrev pub IsBegun : LineEnd → List ℕ → Lines → Lines → Type 0
IsBegun More bytes before now = before ≡ with_front bytes now
IsBegun Feed bytes before now = before ≡ line bytes now
IsBegun Input bytes before now = (before ≡ tail bytes) × (now ≡ tail [])

-- the next part of a line was taken, and is unread no more
pub record TookPart (tells : Bool) (before : Unread) (left : List ℕ) (end : LineEnd) (now : Unread) (left_now : List ℕ) : Type 0 where
  pub lines : IsTrue tells → IsBegun end now.part (lines_of (before.unread ++ left)) (lines_of (now.unread ++ left_now))
  pub number : now.number ≡ (if goes_on end then before.number else before.number + 1)
  pub taken : now.taken ≡ (if goes_on end then before.taken + length now.part else 0)
  pub short : before.taken + length now.part ≤ MAX_LINE_BYTES
  pub grows : goes_on end ≡ true → 0 < length now.part

-- line l, the first of these bytes, was taken up to such bytes
pub record TookLine (tells : Bool) (l : ℕ) (before bytes : List ℕ) (end : LineEnd) (now : Unread) (left_now : List ℕ) : Type 0 where
  pub lines : IsTrue tells → IsBegun end bytes (lines_of before) (lines_of (now.unread ++ left_now))
  pub number : now.number ≡ (if goes_on end then l else l + 1)
  pub taken : now.taken ≡ (if goes_on end then length bytes else 0)
  pub short : length bytes ≤ MAX_LINE_BYTES
