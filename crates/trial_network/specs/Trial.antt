-- The trial configuration of n organisations: each has three nodes, two of which speak for it, and every node wants more than
-- two thirds of the organisations. It is a network whose every two quorums share a node, so the question of intersection has
-- to be answered by a refutation.
use Rattle.std.specs.Prelude.{ℕ, zero, suc, ◌+◌, ◌-◌, ◌*◌, ◌/◌, ◌%◌, List, [], ◌∷◌, Some, replicate}
use Rattle.fbas_model.specs.Names.{Name}
use Rattle.fbas_model.specs.Trees.{QuorumSet, quorum_set, Entries, none, node, inner}
use Rattle.fbas_model.specs.Systems.{System}

-- the name of node v: the letter t and three digits
unfoldable pub node_name : ℕ → Name
node_name v = 116 ∷ (48 + v / 100 % 10) ∷ (48 + v / 10 % 10) ∷ (48 + v % 10) ∷ []

-- the names of k nodes, from v on
abbrev pub names_from : ℕ → ℕ → List Name
names_from v zero = []
names_from v (suc k) = node_name v ∷ names_from (v + 1) k

-- how many of n organisations a node wants
abbrev pub wanted : ℕ → ℕ
wanted n = n - (n - 1) / 3

-- two of the three nodes of organisation o
abbrev pub organisation_set : ℕ → QuorumSet
organisation_set o = quorum_set 2 (node (3 * o) (node (3 * o + 1) (node (3 * o + 2) none)))

-- those of k organisations, from o on
abbrev pub organisation_sets : ℕ → ℕ → Entries
organisation_sets o zero = none
organisation_sets o (suc k) = inner (organisation_set o) (organisation_sets (o + 1) k)

-- the quorum set of every node
abbrev pub trial_set : ℕ → QuorumSet
trial_set n = quorum_set (wanted n) (organisation_sets 0 n)

-- the system
unfoldable pub trial_system : ℕ → System
trial_system n = record { names = names_from 0 (3 * n); sets = replicate (3 * n) (Some (trial_set n)) }
