-- The most room that is told of.
use Rattle.std.specs.Prelude.{ℕ, ◌-◌, ◌^◌}

-- so many bytes at most are measured, one less than the greatest number that tells how much is wanting
abbrev pub MOST_ROOM : ℕ
MOST_ROOM = 2 ^ 64 - 2
