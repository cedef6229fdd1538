-- The trust closure of a node, and a system restricted to a set of its nodes.
use Rattle.std.specs.Prelude.{ℕ, zero, suc, ◌+◌, ◌&&◌, List, [], ◌∷◌, true, false, Some, None, length, take, map}
use Rattle.std.specs.Fn.{iterate}
use Rattle.std.specs.Option.{option_map}
use Rattle.fbas_model.specs.Nodes.{Nodes, Table, members, size, ∅, only, ◌∪◌}
use Rattle.fbas_model.specs.Trees.{QuorumSet, quorum_set, Entries, none, node, inner}
use Rattle.fbas_model.specs.QuorumSets.{mentioned}
use Rattle.fbas_model.specs.Fbas.{Fbas}
use Rattle.fbas_model.specs.Systems.{System}

-- ---- the closure

-- the nodes that stand in the quorum sets at the marked places
abbrev pub mentioned_from : Table → Fbas → Nodes
mentioned_from [] ds = ∅
mentioned_from (m ∷ ms) [] = ∅
mentioned_from (false ∷ ms) (d ∷ ds) = mentioned_from ms ds
mentioned_from (true ∷ ms) (None ∷ ds) = mentioned_from ms ds
mentioned_from (true ∷ ms) (Some d ∷ ds) = mentioned d ∪ mentioned_from ms ds

-- which of n nodes, the first of them v, are in the set
abbrev pub table_from : ℕ → ℕ → Nodes → Table
table_from v zero s = []
table_from v (suc n) s = s v ∷ table_from (v + 1) n s

-- the nodes of the set, and all that their quorum sets mention
abbrev pub with_mentioned : Fbas → Table → Table
with_mentioned f t = table_from 0 (length f) (members t ∪ mentioned_from t f)

-- the trust closure of v: what is reached from v in as many steps as there are nodes
unfoldable pub closure_of : Fbas → ℕ → Table
closure_of f v = iterate (with_mentioned f) (length f) (table_from 0 (length f) (only v))

-- ---- sets of nodes of a system

-- the nodes of both tables, which are as long as the first
abbrev pub union : Table → Table → Table
union s t = table_from 0 (length s) (members s ∪ members t)

-- all nodes of the system
abbrev pub everyone : Fbas → Table
everyone sets = map (λ _. true) sets

-- ---- the restriction

-- the items at the marked places
abbrev pub kept : {A : Type 0} → Table → List A → List A
kept [] xs = []
kept (m ∷ ms) [] = []
kept (true ∷ ms) (x ∷ xs) = x ∷ kept ms xs
kept (false ∷ ms) (x ∷ xs) = kept ms xs

-- the number that v has where only the marked nodes are left: how many of them come before it
abbrev pub rank : Table → ℕ → ℕ
rank t v = size (take v t)

abbrev mutual
  -- the quorum set with the numbers that its nodes have there
  pub renumbered : Table → QuorumSet → QuorumSet
  renumbered t (quorum_set k entries) = quorum_set k (renumbered_all t entries)

  pub renumbered_all : Table → Entries → Entries
  renumbered_all t none = none
  renumbered_all t (node w rest) = node (rank t w) (renumbered_all t rest)
  renumbered_all t (inner q rest) = inner (renumbered t q) (renumbered_all t rest)

-- the quorum sets of the marked nodes
abbrev pub restricted_sets : Table → Fbas → Fbas
restricted_sets t f = kept t (map (option_map (renumbered t)) f)

-- the system of the marked nodes: each has its name and its quorum set, or none
abbrev pub restricted : Table → System → System
restricted t s = record { names = kept t s.names; sets = restricted_sets t s.sets }

-- the nodes of the whole system that a set of the restriction's nodes stands for
abbrev pub raised : Table → Nodes → Nodes
raised t s v = members t v && s (rank t v)
