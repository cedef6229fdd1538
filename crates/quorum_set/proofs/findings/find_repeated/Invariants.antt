use Rattle.std.proofs.Common.{◌≡◌, ℕ, [], map, take, drop, unwrap_or}
use Rattle.std.specs.Ordering.{nat_cmp}
use Rattle.std.specs.BTreeMap.{get}
use Rattle.quorum_set.specs.Findings.{found_all, repeated, times, second_times}
use Rattle.quorum_set.proofs.FindingLaws.{Holds}
use Rattle.quorum_set.proofs.findings.find_repeated.Given as goal

abbrev pub invariant-loop-node : goal.invariant-loop-node
invariant-loop-node l = record {
  counted : (q : ℕ) → unwrap_or (get nat_cmp l.counts q) 0 ≡ times q (take l.node-index l.nodes);
  told : Holds (found_all l.initial.into.items) (map (repeated l.fn.path) (second_times [] l.nodes)) (found_all l.into.items) (map (repeated l.fn.path) (second_times (take l.node-index l.nodes) (drop l.node-index l.nodes)));
}
