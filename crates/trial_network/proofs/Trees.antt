-- The system of a trial configuration as a tree.
use Rattle.std.proofs.Common.{◌≡◌, ℕ, zero, suc, ◌+◌, ◌*◌, ◌≤◌, ◌<◌, List, [], Some, replicate, refl, ap, ap₂, ◌∙◌, arith}
use Rattle.serde_json.specs.Data.{Data, array, item}
use Rattle.serde_json.specs.Written.{compact_text}
use Rattle.fbas_model.specs.Names.{Name}
use Rattle.fbas_model.specs.Trees.{QuorumSet}
use Rattle.config_text.specs.Written.{name_of, validators_named, named, inner_named, nodes_by, nodes_named, node_with, set_data, sets_data, nodes_data, config_data, config_text}
use Rattle.trial_network.specs.Trial.{node_name, names_from, organisation_sets, trial_set, trial_system}
use Rattle.trial_network.specs.Tree.{organisation_trees, trial_set_tree, node_trees, trial_tree, trial_text}
use Rattle.trial_network.proofs.NodeNames.{names-at}

name_is : (n v : ℕ) → v < 3 * n → name_of (names_from 0 (3 * n)) v ≡ node_name v
name_is n v low = let e : 0 + v ≡ v = omega arith in names-at 0 (3 * n) v low ∙ ap node_name e

organisations_are : (n o k : ℕ) → o + k ≤ n → sets_data (inner_named (names_from 0 (3 * n)) (organisation_sets o k)) ≡ organisation_trees o k
organisations_are n o zero few = refl
organisations_are n o (suc k) few =
    rw (name_is n (3 * o) (omega (arith, few)), name_is n (3 * o + 1) (omega (arith, few)), name_is n (3 * o + 2) (omega (arith, few)), organisations_are n (o + 1) k (omega (arith, few))) refl

none_named : (names : List Name) (o k : ℕ) → validators_named names (organisation_sets o k) ≡ []
none_named names o zero = refl
none_named names o (suc k) = none_named names (o + 1) k

set_is : (n : ℕ) → set_data (named (names_from 0 (3 * n)) (trial_set n)) ≡ trial_set_tree n
set_is n = rw (none_named (names_from 0 (3 * n)) 0 n, organisations_are n 0 n (omega arith)) refl

nodes_are : (names : List Name) (q : QuorumSet) (set : Data) → set_data (named names q) ≡ set → (v k : ℕ) → nodes_data (nodes_by names (names_from v k) (replicate k (Some q))) ≡ node_trees set v k
nodes_are names q set is v zero = refl
nodes_are names q set is v (suc k) = ap₂ item (ap (node_with (node_name v)) is) (nodes_are names q set is (v + 1) k)

pub tree_is : (n : ℕ) → config_data (nodes_named (trial_system n)) ≡ trial_tree n
unfolding trial_system trial_tree
tree_is n = ap array (nodes_are (names_from 0 (3 * n)) (trial_set n) (trial_set_tree n) (set_is n) 0 (3 * n))

pub text_is : (n : ℕ) → config_text (trial_system n) ≡ trial_text n
unfolding config_text trial_text
text_is n = ap compact_text (tree_is n)
