use Rattle.std.proofs.Common.{◌≡◌, ◌+◌, take}
use Rattle.std.specs.Prelude.{sum_by}
use Rattle.quorum_set.proofs.Entries.{with_own}
use Rattle.quorum_set.proofs.QuorumSet.+entries.Given as goal

abbrev pub decreases-entries : goal.decreases-entries
decreases-entries l = goal.size-entries l

abbrev pub invariant-loop-inner : goal.invariant-loop-inner
invariant-loop-inner l = l.entries ≡ l.initial.entries + sum_by with_own (take l.inner-index l.inner-items)
