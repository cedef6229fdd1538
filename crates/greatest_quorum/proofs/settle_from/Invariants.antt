use Rattle.std.proofs.Common.{◌≡◌, suc, ◌+◌, ◌*◌, length}
use Rattle.fbas_model.specs.Nodes.{members, size, ◌⊆◌}
use Rattle.greatest_quorum.specs.Looks.{AreWaiting}
use Rattle.greatest_quorum.proofs.Shrinking.{Shrinking}
use Rattle.greatest_quorum.proofs.settle_from.Given as goal

abbrev pub invariant-loop-v : goal.invariant-loop-v
invariant-loop-v l =
    (length l.u ≡ length l.initial.u) × (length l.again ≡ length l.initial.u)
    × (AreWaiting l.system.sets (members l.faulty) (members l.initial.u) (members l.initial.again) → members l.needed ⊆ members l.initial.u → (Shrinking l.system.sets (members l.faulty) l.initial.u l.u l.again × members l.needed ⊆ members l.u))

abbrev pub decreases-loop-v : goal.decreases-loop-v
decreases-loop-v l = size l.u * suc (length l.initial.u) + size l.again
