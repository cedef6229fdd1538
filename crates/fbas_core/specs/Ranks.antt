-- The numbers that nodes have in a restriction.
use Rattle.std.specs.Prelude.{◌≡◌, ◌<◌, ℕ, List, length, slice_index}
use Rattle.fbas_model.specs.Nodes.{Table}
use Rattle.fbas_model.specs.Restriction.{rank}

-- for each node its rank among the marked ones
pub record AreRanks (t : Table) (ranks : List ℕ) : Type 0 where
  pub same_n : length ranks ≡ length t
  pub each : (v : ℕ) → v < length t → slice_index ranks v ≡ rank t v
