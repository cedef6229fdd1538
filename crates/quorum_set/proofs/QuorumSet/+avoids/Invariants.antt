use Rattle.std.proofs.Common.{◌≡◌, ◌+◌, take}
use Rattle.std.specs.Prelude.{count_by}
use Rattle.fbas_model.specs.Nodes.{members, outside}
use Rattle.fbas_model.specs.Counting.{is_satisfied}
use Rattle.quorum_set.proofs.QuorumSet.+avoids.Given as goal

abbrev pub decreases-avoids : goal.decreases-avoids
decreases-avoids l = goal.size-avoids l

abbrev pub invariant-loop-inner : goal.invariant-loop-inner
invariant-loop-inner l =
    l.avoiding
    ≡ count_by (outside (members l.s)) l.self-inside.validators.items
    + count_by (is_satisfied (outside (members l.s))) (take l.inner-index l.inner-items)
