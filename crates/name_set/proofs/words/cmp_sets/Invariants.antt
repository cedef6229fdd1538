use Rattle.std.proofs.Common.{◌≡◌, ℕ, ◌<◌, get_or}
use Rattle.std.specs.Int.RustNames.{bit_xor}
use Rattle.name_set.proofs.words.cmp_sets.Given as goal

abbrev pub invariant-loop-i : goal.invariant-loop-i
invariant-loop-i g l = (k : ℕ) → k < l.i → bit_xor (get_or l.a-inside.words k 0) (get_or l.b-inside.words k 0) ≡ 0
