-- What a look at one node of a set does, and what many leave.
use Rattle.std.specs.Prelude.{◌≡◌, ℕ, Bool, false, length, MatchBool}
use Rattle.fbas_model.specs.Nodes.{Nodes, Table, members, ◌∈◌, ◌⊆◌, only, ◌∪◌, ◌∩◌, ◌∖◌, IsInhabited}
use Rattle.fbas_model.specs.Fbas.{Fbas, HasSliceWithin, Quorum, IsGreatestQuorum}
use Rattle.fbas_core.specs.Mentioning.{mentioning}

-- the set stays as it is, and v, where it is in the set, has a slice inside it
pub record IsKept (f : Fbas) (b : Nodes) (v : ℕ) (set next again later : Table) : Type 0 where
  pub same : next ≡ set
  pub has : v ∈ members set → HasSliceWithin f b v (members set)
  pub waiting : members later ≡ members again ∖ only v

-- v is taken out of the set, inside which it has no slice, and those of the others that mention it have to be looked at again
pub record IsTaken (f : Fbas) (b : Nodes) (v : ℕ) (set next again later : Table) : Type 0 where
  pub here : v ∈ members set
  pub stuck : HasSliceWithin f b v (members set) → ⊥
  pub taken : members next ≡ members set ∖ only v
  pub waiting : members later ≡ ((members again ∖ only v) ∪ mentioning f v) ∩ members next

-- the node v was looked at, and maybe taken out
pub record IsLook (f : Fbas) (b : Nodes) (v : ℕ) (set next again later : Table) (taken : Bool) : Type 0 where
  pub same_n : length next ≡ length set
  pub same_again : length later ≡ length again
  pub look : MatchBool taken (IsTaken f b v set next again later) (IsKept f b v set next again later)

-- there are needed nodes, and no quorum inside u holds them all
pub record HasNoneWith (f : Fbas) (b u needed : Nodes) : Type 0 where
  pub some : IsInhabited needed
  pub none : (w : Nodes) → Quorum f b w → w ⊆ u → needed ⊆ w → ⊥

-- r is a quorum inside u with all needed nodes
pub record IsQuorumWith (f : Fbas) (b u needed r : Nodes) : Type 0 where
  pub quorum : Quorum f b r
  pub within : r ⊆ u
  pub holds : needed ⊆ r

-- no node of a set is faulty, and all but those that are waiting have a slice inside it
pub record AreWaiting (f : Fbas) (b u again : Nodes) : Type 0 where
  pub left : u ⊆ (u ∖ b)
  pub others : (v : ℕ) → v ∈ u → again v ≡ false → HasSliceWithin f b v u

-- the greatest quorum inside u is left, and holds the needed nodes; or there is none that does
abbrev pub IsSettled : Bool → Fbas → Nodes → Nodes → Nodes → Nodes → Type 0
IsSettled whole f b u needed r = MatchBool whole (IsGreatestQuorum f b u r × needed ⊆ r) (HasNoneWith f b u needed)
