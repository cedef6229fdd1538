-- Two quorums that share no node, and what else two sets can be.
use Rattle.std.specs.Prelude.{◌≡◌, ◌⊎◌, ℕ}
use Rattle.fbas_model.specs.Nodes.{Nodes, Table, members, ◌∈◌, ◌∪◌, ◌∩◌, IsLeast, Meets}
use Rattle.fbas_model.specs.Fbas.{Fbas, Quorum}
use Rattle.witness_pair.specs.declared.Pair.{Pair}
use Rattle.witness_pair.specs.declared.Side.TheVariants.{First, Second}
use Rattle.witness_pair.specs.declared.PairFault.{PairFault}
use Rattle.witness_pair.specs.declared.PairFault.TheVariants.{NotQuorum, Overlap}

-- once b is deleted: two quorums that share no node, with the least node of both in the first
pub record IsPair (f : Fbas) (b : Nodes) (p : Pair) : Type 0 where
  pub first : Quorum f b (members p.first)
  pub second : Quorum f b (members p.second)
  pub apart : Meets (members p.first) (members p.second) → ⊥
  pub order : (v : ℕ) → IsLeast (members p.first ∪ members p.second) v → v ∈ members p.first

-- the pair has these two sets
abbrev pub AreTheTwo : Table → Table → Pair → Type 0
AreTheTwo u w p = (p ≡ record { first = u; second = w }) ⊎ (p ≡ record { first = w; second = u })

-- why u and w are no such pair, where the first reason counts
abbrev pub IsFault : Fbas → Nodes → Nodes → Nodes → PairFault → Type 0
IsFault f b u w (NotQuorum First) = Quorum f b u → ⊥
IsFault f b u w (NotQuorum Second) = Quorum f b u × (Quorum f b w → ⊥)
IsFault f b u w (Overlap v) = Quorum f b u × Quorum f b w × IsLeast (u ∩ w) v
