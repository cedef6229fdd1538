-- A system with the names of its nodes, within the limits that this analyser keeps.
use Rattle.std.specs.Prelude.{◌≡◌, ◌+◌, ◌≤◌, ℕ, List, [], ◌∷◌, Option, Some, None, length, All, IfSome, IsTrue, refl}
use Rattle.std.specs.Coded.{Coded, coded_ℕ, coded×, coded_list, coded_option, code_by}
use Rattle.fbas_model.specs.declared.TheConstants.{MOST_NODES, MOST_ENTRIES, MOST_LEVELS}
use Rattle.fbas_model.specs.Trees.{QuorumSet}
use Rattle.fbas_model.specs.Stored.{coded_quorum_set}
use Rattle.fbas_model.specs.QuorumSets.{IsBelow, all_entries, depth}
use Rattle.fbas_model.specs.Names.{Name, is_key}
use Rattle.fbas_model.specs.Fbas.{Fbas}

-- the name of each node, in order, and its quorum set
pub record System : Type 0 where
  pub names : List Name
  pub sets : Fbas

abbrev pub coded_system : Coded System
coded_system =
    code_by (List (List ℕ) × List (Option QuorumSet)) (coded× (coded_list (coded_list coded_ℕ)) (coded_list (coded_option coded_quorum_set))) (λ s. (s.names, s.sets)) (λ p. record { names = p.0; sets = p.1 }) (λ _. refl)

-- the entries of all quorum sets, at all depths
abbrev pub entries_in : Fbas → ℕ
entries_in [] = 0
entries_in (None ∷ sets) = entries_in sets
entries_in (Some q ∷ sets) = all_entries q + entries_in sets

-- how many nodes have no quorum set
abbrev pub unset_in : Fbas → ℕ
unset_in [] = 0
unset_in (None ∷ sets) = 1 + unset_in sets
unset_in (Some q ∷ sets) = unset_in sets

-- a quorum set whose nodes are below n and that nests no deeper than the limit
pub record IsWithin (n : ℕ) (q : QuorumSet) : Type 0 where
  pub below : IsBelow n q
  pub shallow : depth q ≤ MOST_LEVELS

-- what each system keeps: a place for each name, names that are keys, and the limits on nodes, entries and depth
pub record IsSystem (names : List Name) (sets : Fbas) : Type 0 where
  pub places : length sets ≡ length names
  pub keys : All (λ name. IsTrue (is_key name)) names
  pub few : length names ≤ MOST_NODES
  pub within : All (λ o. IfSome o (IsWithin (length names))) sets
  pub entries : entries_in sets ≤ MOST_ENTRIES
