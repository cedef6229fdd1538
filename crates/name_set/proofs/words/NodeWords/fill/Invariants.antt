use Rattle.std.proofs.Common.{◌≡◌}
use Rattle.name_set.proofs.WordFill.{Filled}
use Rattle.name_set.proofs.words.NodeWords.fill.Given as goal

abbrev pub invariant-loop-i : goal.invariant-loop-i
invariant-loop-i g l = record {
  same_n : l.self-inside.n ≡ l.initial.self-inside.n;
  filled : Filled l.initial.self-inside.words l.self-inside.words l.i;
}
