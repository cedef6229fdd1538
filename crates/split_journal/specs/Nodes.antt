-- Splitting sets of nodes: each node is a group of its own. And the evidence that a set splits.
use Rattle.std.specs.Prelude.{◌≡◌, ℕ, zero, suc, ◌+◌, ◌≤◌, ◌↔◌, ◌&&◌, Bool, not, List, [], ◌∷◌, length, Contains, Option, Some, None}
use Rattle.std.specs.List.Sorted.{IsStrictlySortedBy}
use Rattle.fbas_model.specs.Nodes.{Nodes, Table, members, ◌⊆◌, only, size, set_cmp}
use Rattle.fbas_model.specs.Fbas.{Fbas}
use Rattle.fbas_model.specs.Restriction.{table_from, union}
use Rattle.fbas_model.specs.Counting.{is_quorum}
use Rattle.enumeration_journal.specs.Tests.{is_blocking}
use Rattle.split_journal.specs.Splitting.{Splits}

-- s splits, and no proper subset of it does
pub record SplitsMinimally (f : Fbas) (b s : Nodes) : Type 0 where
  pub splits : Splits f b s
  pub least : (t : Nodes) → t ⊆ s → Splits f b t → s ⊆ t

-- all such sets, each once, in name order
pub record IsListOfSplitting (f : Fbas) (b : Nodes) (sets : List Table) : Type 0 where
  pub rising : IsStrictlySortedBy set_cmp sets
  pub exact : (s : Table) → Contains sets s ↔ ((length s ≡ length f) × SplitsMinimally f b (members s))

-- s splits, and no set that does has fewer nodes
pub record SplitsLeast (f : Fbas) (b : Nodes) (s : Table) : Type 0 where
  pub places : length s ≡ length f
  pub splits : Splits f b (members s)
  pub least : (t : Table) → length t ≡ length f → Splits f b (members t) → size s ≤ size t

-- such a set, or none where no set splits
abbrev pub IsLeastOfSplitting : Fbas → Nodes → Option Table → Type 0
IsLeastOfSplitting f b None = (t : Table) → length t ≡ length f → Splits f b (members t) → ⊥
IsLeastOfSplitting f b (Some s) = SplitsLeast f b s

-- the nodes from v on, each alone, as sets of n nodes
abbrev pub alone_from : ℕ → ℕ → ℕ → List Table
alone_from n v zero = []
alone_from n v (suc k) = table_from 0 n (only v) ∷ alone_from n (v + 1) k

abbrev pub alone : ℕ → List Table
alone n = alone_from n 0 n

-- a is a quorum once b and s are deleted, and does not meet every other: so s splits
abbrev pub is_split_by : Fbas → Table → Table → Table → Bool
is_split_by f b s a = is_quorum f (union b s) a && not (is_blocking f (union b s) a)
