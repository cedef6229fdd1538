use Rattle.std.proofs.Common.{◌≡◌, ℕ, List, ◌++◌, map, take, pos}
use Rattle.lrat_text.proofs.arena.push_short.Given as goal

abbrev pub invariant-loop-hint : goal.invariant-loop-hint
invariant-loop-hint l = (ids : List ℕ) × (map pos ids ≡ take l.hint-index l.hints) × (l.arena.items ≡ l.initial.arena.items ++ ids)
