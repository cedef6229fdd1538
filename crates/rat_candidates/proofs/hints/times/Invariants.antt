use Rattle.std.proofs.Common.{◌≡◌, ◌+◌, ◌≤◌, drop}
use Rattle.rat_candidates.specs.Occurrences.{times}
use Rattle.rat_candidates.proofs.hints.times.Given as goal

abbrev pub invariant-loop-m : goal.invariant-loop-m
invariant-loop-m l = record {
  sum : l.count + times l.l (drop l.m-index l.clause) ≡ times l.l l.clause;
  small : l.count ≤ l.m-index;
}
