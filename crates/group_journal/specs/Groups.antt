-- Groups of nodes, as organisations are: which sets of them block.
use Rattle.std.specs.Prelude.{◌≡◌, ◌↔◌, List, [], ◌∷◌, true, false, length, map, Contains}
use Rattle.std.specs.List.Sorted.{IsStrictlySortedBy}
use Rattle.fbas_model.specs.Nodes.{Nodes, Table, members, ◌⊆◌, ∅, ◌∪◌, ◌∖◌, set_cmp}
use Rattle.fbas_model.specs.Fbas.{Fbas, Blocks}
use Rattle.enumeration_journal.specs.Tests.{is_meeting}

-- the members of the marked groups
abbrev pub joined : List Table → Table → Nodes
joined [] marks = ∅
joined (group ∷ groups) [] = ∅
joined (group ∷ groups) (true ∷ marks) = members group ∪ joined groups marks
joined (group ∷ groups) (false ∷ marks) = joined groups marks

-- the groups that have a member among the nodes
abbrev pub touching : List Table → Table → Table
touching groups nodes = map (λ group. is_meeting group nodes) groups

-- the members of the groups, without the deleted nodes, meet every quorum
abbrev pub GroupsBlock : Fbas → Nodes → List Table → Table → Type 0
GroupsBlock f b groups marks = Blocks f b (joined groups marks ∖ b)

-- they block, and no proper subset of the groups does
pub record IsLeastBlock (f : Fbas) (b : Nodes) (groups : List Table) (marks : Table) : Type 0 where
  pub blocks : GroupsBlock f b groups marks
  pub least : (other : Table) → length other ≡ length groups → members other ⊆ members marks → GroupsBlock f b groups other → members marks ⊆ members other

-- each of the groups has a member in the greatest quorum g, they block, and no proper subset of them does
pub record GroupsBlockMinimally (f : Fbas) (b : Nodes) (g : Table) (groups : List Table) (marks : Table) : Type 0 where
  pub places : length marks ≡ length groups
  pub useful : members marks ⊆ members (touching groups g)
  pub minimal : IsLeastBlock f b groups marks

-- the sets are the minimal blocking sets of groups and no others
abbrev pub AreMinimalGroupBlocks : Fbas → Nodes → Table → List Table → List Table → Type 0
AreMinimalGroupBlocks f b g groups sets = (s : Table) → Contains sets s ↔ GroupsBlockMinimally f b g groups s

-- all of them, each once, in the order of the groups' numbers
pub record IsGroupList (f : Fbas) (b : Nodes) (g : Table) (groups : List Table) (sets : List Table) : Type 0 where
  pub rising : IsStrictlySortedBy set_cmp sets
  pub exact : AreMinimalGroupBlocks f b g groups sets
