use Rattle.std.proofs.Common.{◌≡◌, ℕ, ◌<◌, ◌^◌, get_or}
use Rattle.name_set.proofs.WordMixes.{without}
use Rattle.name_set.proofs.words.NodeWords.lies_in.Given as goal

abbrev pub invariant-loop-i : goal.invariant-loop-i
invariant-loop-i g l = record {
  none : (k : ℕ) → k < l.i → without (get_or l.self-inside.words k 0) (get_or l.other-inside.words k 0) ≡ 0;
  read : (k : ℕ) → k < l.i → get_or l.other-inside.words k 0 < 2 ^ 64;
}
