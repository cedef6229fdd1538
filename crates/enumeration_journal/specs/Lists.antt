-- The list of all minimal sets of a kind.
use Rattle.std.specs.Prelude.{◌≡◌, ◌↔◌, List, length, Contains}
use Rattle.std.specs.List.Sorted.{IsStrictlySortedBy}
use Rattle.fbas_model.specs.Nodes.{Nodes, Table, members, set_cmp}
use Rattle.fbas_model.specs.Fbas.{Fbas}
use Rattle.enumeration_journal.specs.Kinds.{IsMinimal}
use Rattle.enumeration_journal.specs.declared.kinds.Listed.{Listed}

-- a minimal set of the kind once b is deleted, with a place for each node
abbrev pub IsMinimalSet : Listed → Fbas → Nodes → Table → Type 0
IsMinimalSet kind f b s = (length s ≡ length f) × IsMinimal kind f b (members s)

-- the sets are the minimal ones of the kind and no others
abbrev pub AreMinimalSets : Listed → Fbas → Nodes → List Table → Type 0
AreMinimalSets kind f b sets = (s : Table) → Contains sets s ↔ IsMinimalSet kind f b s

-- all minimal sets of the kind, each once, in name order
pub record IsListOf (kind : Listed) (f : Fbas) (b : Nodes) (sets : List Table) : Type 0 where
  pub rising : IsStrictlySortedBy set_cmp sets
  pub exact : AreMinimalSets kind f b sets
