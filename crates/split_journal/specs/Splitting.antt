-- Which sets of nodes split a system, and which sets of groups of nodes do, where a group lies as a whole.
use Rattle.std.specs.Prelude.{◌≡◌, ◌↔◌, ◌≤◌, List, length, Contains}
use Rattle.std.specs.List.Sorted.{IsStrictlySortedBy}
use Rattle.fbas_model.specs.Nodes.{Nodes, Table, members, ◌⊆◌, ◌∪◌, size, set_cmp}
use Rattle.fbas_model.specs.Fbas.{Fbas}
use Rattle.clause_encoder.specs.Meaning.{AreDisjointQuorums}
use Rattle.group_journal.specs.Groups.{joined, touching}

-- s splits: once b and s are deleted, two quorums share no node
abbrev pub Splits : Fbas → Nodes → Nodes → Type 0
Splits f b s = (u : Nodes) × (w : Nodes) × AreDisjointQuorums f (b ∪ s) u w

-- the members of the marked groups do
abbrev pub GroupsSplit : Fbas → Nodes → List Table → Table → Type 0
GroupsSplit f b groups marks = Splits f b (joined groups marks)

-- what may be listed: a set of groups, each with a member among the nodes that are left, that splits
pub record IsSplit (f : Fbas) (b : Nodes) (left : Table) (groups : List Table) (marks : Table) : Type 0 where
  pub places : length marks ≡ length groups
  pub useful : members marks ⊆ members (touching groups left)
  pub splits : GroupsSplit f b groups marks

-- a set of groups that splits, and no proper subset of it does
pub record IsMinimalSplit (f : Fbas) (b : Nodes) (groups : List Table) (marks : Table) : Type 0 where
  pub places : length marks ≡ length groups
  pub splits : GroupsSplit f b groups marks
  pub least : (other : Table) → length other ≡ length groups → members other ⊆ members marks → GroupsSplit f b groups other → members marks ⊆ members other

-- the sets are the minimal ones and no others
abbrev pub AreMinimalSplits : Fbas → Nodes → List Table → List Table → Type 0
AreMinimalSplits f b groups sets = (s : Table) → Contains sets s ↔ IsMinimalSplit f b groups s

-- all of them, each once, in the order of the groups' numbers
pub record IsSplitList (f : Fbas) (b : Nodes) (groups : List Table) (sets : List Table) : Type 0 where
  pub rising : IsStrictlySortedBy set_cmp sets
  pub exact : AreMinimalSplits f b groups sets

-- a set that splits with as few groups as any
pub record IsLeastSplit (f : Fbas) (b : Nodes) (groups : List Table) (marks : Table) : Type 0 where
  pub places : length marks ≡ length groups
  pub splits : GroupsSplit f b groups marks
  pub least : (other : Table) → length other ≡ length groups → GroupsSplit f b groups other → size marks ≤ size other
