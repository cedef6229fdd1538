use Rattle.std.proofs.Common.{◌≡◌, map, take}
use Rattle.fbas_model.specs.Nodes.{Table}
use Rattle.fbas_model.specs.Restriction.{renumbered}
use Rattle.fbas_core.specs.Ranks.{AreRanks}
use Rattle.fbas_core.proofs.restriction.+renumber.Given as goal

abbrev pub decreases-renumber : goal.decreases-renumber
decreases-renumber l = goal.size-renumber l

abbrev pub invariant-loop-one : goal.invariant-loop-one
invariant-loop-one l = (t : Table) → AreRanks t l.ranks → l.inner.items ≡ map (renumbered t) (take l.one-index l.one-items)
