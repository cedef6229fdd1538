use Rattle.std.proofs.Common.{◌≡◌, drop}
use Rattle.fbas_model.specs.Lists.{inner_entries}
use Rattle.quorum_set.specs.Findings.{found_all, findings_at, findings_inside}
use Rattle.quorum_set.proofs.FindingLaws.{Holds}
use Rattle.quorum_set.proofs.QuorumSet.+find_at.Given as goal

abbrev pub decreases-find_at : goal.decreases-find_at
decreases-find_at l = goal.size-find_at l

abbrev pub invariant-loop-at : goal.invariant-loop-at
invariant-loop-at l = record {
  path : l.path.items ≡ l.fn.path.items;
  told : Holds (found_all l.fn.into.items) (findings_at l.fn.path.items l.fn.self) (found_all l.into.items) (findings_inside l.fn.path.items l.at (inner_entries (drop l.at l.inner-items)));
}
