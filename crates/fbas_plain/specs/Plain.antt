-- Words of the plain programs.
use Rattle.std.specs.Prelude.{◌≡◌, ℕ, ◌<◌, ◌^◌, length, All, IfSome}
use Rattle.fbas_model.specs.Nodes.{Nodes, ◌⊆◌}
use Rattle.fbas_model.specs.Trees.{Entries}
use Rattle.fbas_model.specs.QuorumSets.{Pick, IsBelow}
use Rattle.fbas_model.specs.Fbas.{Fbas}

-- k of the entries, at different places, give a set that lies in u
abbrev pub HasPickWithin : Entries → ℕ → Nodes → Type 0
HasPickWithin entries k u = (s : Nodes) × Pick entries k s × s ⊆ u

-- the nodes are numbers of 32 bits, and each node that stands in a quorum set is one of them
pub record IsWellFormed (f : Fbas) : Type 0 where
  pub few : length f < 2 ^ 32
  pub below : All (λ o. IfSome o (IsBelow (length f))) f

-- the two sets have the same nodes below v
abbrev pub AgreeBelow : ℕ → Nodes → Nodes → Type 0
AgreeBelow v s t = (w : ℕ) → w < v → s w ≡ t w
