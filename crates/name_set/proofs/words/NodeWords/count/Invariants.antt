use Rattle.std.proofs.Common.{◌≡◌, ◌*◌, ◌≤◌}
use Rattle.name_set.proofs.WordCounts.{counted}
use Rattle.name_set.proofs.words.NodeWords.count.Given as goal

abbrev pub invariant-loop-i : goal.invariant-loop-i
invariant-loop-i g l = record {
  counted : l.count ≡ counted l.self-inside.words l.i;
  few : l.count ≤ 64 * l.i;
}
