use Rattle.std.proofs.Common.{◌≡◌, ℕ, ◌<◌, length}
use Rattle.std.specs.Prelude.{List, slice_index}
use Rattle.fbas_model.specs.Nodes.{Table}
use Rattle.fbas_model.specs.Restriction.{rank}
use Rattle.fbas_core.proofs.restriction.ranks.Given as goal

-- the ranks of the nodes before v
pub record Ranked (kept : Table) (ranks : List ℕ) (at v : ℕ) : Type 0 where
  pub same_n : length ranks ≡ v
  pub now : at ≡ rank kept v
  pub each : (w : ℕ) → w < v → slice_index ranks w ≡ rank kept w

abbrev pub invariant-loop-v : goal.invariant-loop-v
invariant-loop-v l = Ranked l.kept l.ranks.items l.rank l.v
