-- Marked groups, and how many of them have each node.
use Rattle.std.specs.Prelude.{◌≡◌, ◌≤◌, ◌+◌, ℕ, List, [], ◌∷◌, true, false, cond, length, All, slice_index_or}
use Rattle.fbas_model.specs.declared.TheConstants.{MOST_NODES, MOST_ORGS}
use Rattle.fbas_model.specs.Nodes.{Table, members}
use Rattle.group_journal.specs.Groups.{joined}

-- groups of n nodes, some of which are marked
pub record Marking : Type 0 where
  pub n : ℕ
  pub groups : List Table
  pub marks : Table

-- how many of the marked groups have the node
abbrev pub times : List Table → Table → ℕ → ℕ
times [] marks v = 0
times (group ∷ groups) [] v = 0
times (group ∷ groups) (true ∷ marks) v = cond (members group v) 1 0 + times groups marks v
times (group ∷ groups) (false ∷ marks) v = times groups marks v

-- the counts are those of the nodes, and the nodes are the members of the marked groups
pub record AreCounted (groups : List Table) (marks : Table) (tally : List ℕ) (union : Table) : Type 0 where
  pub sized : All (λ group. length group ≡ length union) groups
  pub few : length groups ≤ MOST_NODES + MOST_ORGS
  pub places : length marks ≡ length groups
  pub same_n : length tally ≡ length union
  pub counts : (v : ℕ) → slice_index_or tally v 0 ≡ times groups marks v
  pub nodes : members union ≡ joined groups marks
