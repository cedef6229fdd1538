use Rattle.std.proofs.Common.{◌≡◌, bit_or}
use Rattle.name_set.proofs.WordMixes.{Mixed}
use Rattle.name_set.proofs.words.NodeWords.join.Given as goal

abbrev pub invariant-loop-i : goal.invariant-loop-i
invariant-loop-i g l = record {
  same_n : l.self-inside.n ≡ l.initial.self-inside.n;
  mixed : Mixed bit_or l.initial.self-inside.words l.other-inside.words l.self-inside.words l.i;
}
