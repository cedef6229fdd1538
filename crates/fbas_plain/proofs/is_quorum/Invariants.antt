use Rattle.std.proofs.Common.{ℕ, ◌<◌}
use Rattle.fbas_model.specs.Nodes.{members, ◌∈◌}
use Rattle.fbas_model.specs.Fbas.{HasSliceWithin}
use Rattle.fbas_plain.proofs.is_quorum.Given as goal

abbrev pub invariant-loop-v : goal.invariant-loop-v
invariant-loop-v l = (k : ℕ) → k < l.v → k ∈ members l.u → HasSliceWithin l.sets (members l.faulty) k (members l.u)
