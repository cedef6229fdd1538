use Rattle.std.proofs.Common.{◌≡◌}
use Rattle.name_set.proofs.WordMixes.{Mixed, without}
use Rattle.name_set.proofs.words.NodeWords.minus.Given as goal

abbrev pub invariant-loop-i : goal.invariant-loop-i
invariant-loop-i g l = record {
  same_n : l.self-inside.n ≡ l.initial.self-inside.n;
  mixed : Mixed without l.initial.self-inside.words l.other-inside.words l.self-inside.words l.i;
}
