-- What marks by rounds are seen as.
use Rattle.std.specs.Prelude.{◌≤◌, ◌==◌, Bool, List, map, All}
use Rattle.cdcl_core.specs.declared.marks.Marks.TheInside.{Inside}

-- what has the present round is marked
abbrev pub shown : Inside → List Bool
shown m = map (λ r. r == m.round) m.rounds.items

-- no round is later than the present one
abbrev pub IsRound : Inside → Type 0
IsRound m = All (λ r. r ≤ m.round) m.rounds.items
