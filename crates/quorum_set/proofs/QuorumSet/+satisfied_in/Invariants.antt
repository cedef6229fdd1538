use Rattle.std.proofs.Common.{◌≡◌, ◌+◌, take}
use Rattle.std.specs.Prelude.{count_by}
use Rattle.fbas_model.specs.Nodes.{members, ◌∪◌}
use Rattle.fbas_model.specs.Counting.{is_satisfied}
use Rattle.quorum_set.proofs.QuorumSet.+satisfied_in.Given as goal

abbrev pub decreases-satisfied_in : goal.decreases-satisfied_in
decreases-satisfied_in l = goal.size-satisfied_in l

abbrev pub invariant-loop-inner : goal.invariant-loop-inner
invariant-loop-inner l =
    l.satisfied
    ≡ count_by (members l.u ∪ members l.faulty) l.self-inside.validators.items
    + count_by (is_satisfied (members l.u ∪ members l.faulty)) (take l.inner-index l.inner-items)
