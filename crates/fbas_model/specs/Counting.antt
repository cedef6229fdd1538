-- Quorum sets and quorums by counting, where a node or an inner quorum set counts once for each place where it stands.
use Rattle.std.specs.Prelude.{ℕ, ◌+◌, Bool, true, false, not, ◌&&◌, ◌||◌, [], ◌∷◌, Option, Some, None, nat_le, if◌then◌else◌}
use Rattle.fbas_model.specs.Nodes.{Nodes, Table, members, ◌∪◌}
use Rattle.fbas_model.specs.Trees.{QuorumSet, quorum_set, Entries, none, node, inner}
use Rattle.fbas_model.specs.Fbas.{Fbas}

abbrev mutual
  -- the threshold is at least 1, and that many entries are met inside u
  pub is_satisfied : Nodes → QuorumSet → Bool
  is_satisfied u (quorum_set k entries) = nat_le 1 k && nat_le k (count_met u entries)

  -- how many entries are met inside u: nodes of u, and inner quorum sets that are satisfied
  pub count_met : Nodes → Entries → ℕ
  count_met u none = 0
  count_met u (node w rest) = (if u w then 1 else 0) + count_met u rest
  count_met u (inner q rest) = (if is_satisfied u q then 1 else 0) + count_met u rest

abbrev pub is_satisfied_if_any : Nodes → Option QuorumSet → Bool
is_satisfied_if_any u None = false
is_satisfied_if_any u (Some d) = is_satisfied u d

-- each member of the second table is not in the third, and its quorum set is satisfied inside the set
abbrev pub each_satisfied : Nodes → Table → Table → Fbas → Bool
each_satisfied within [] bs ds = true
each_satisfied within (false ∷ us) (b ∷ bs) (d ∷ ds) = each_satisfied within us bs ds
each_satisfied within (true ∷ us) (b ∷ bs) (d ∷ ds) = not b && (is_satisfied_if_any within d && each_satisfied within us bs ds)
each_satisfied within (u ∷ us) [] ds = false
each_satisfied within (u ∷ us) (b ∷ bs) [] = false

-- a table with a member
abbrev pub is_inhabited : Table → Bool
is_inhabited [] = false
is_inhabited (m ∷ ms) = m || is_inhabited ms

-- whether u is a quorum once b is deleted
abbrev pub is_quorum : Fbas → Table → Table → Bool
is_quorum f b u = is_inhabited u && each_satisfied (members u ∪ members b) u b f
