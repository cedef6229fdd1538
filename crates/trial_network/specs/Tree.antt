-- The trial configuration as it is written: a tree of JSON, and its compact text.
use Rattle.std.specs.Prelude.{ℕ, zero, suc, ◌+◌, ◌*◌, List, [], ◌∷◌, codes}
use Rattle.serde_json.specs.Data.{Data, unsigned, number, string, array, object, Items, no_items, item, no_members, member}
use Rattle.serde_json.specs.Written.{compact_text}
use Rattle.fbas_model.specs.Names.{Name}
use Rattle.trial_network.specs.Trial.{node_name, wanted}

-- texts as items
abbrev pub strings : List Name → Items
strings [] = no_items
strings (name ∷ names) = item (string name) (strings names)

-- a quorum set with its inner sets, its threshold and its validators
abbrev pub set_tree : Items → ℕ → List Name → Data
set_tree inners threshold validators = object (member (codes "innerQuorumSets") (array inners)
    (member (codes "threshold") (number (unsigned threshold))
    (member (codes "validators") (array (strings validators)) no_members)))

-- the inner set of organisation o
abbrev pub organisation_tree : ℕ → Data
organisation_tree o = set_tree no_items 2 (node_name (3 * o) ∷ node_name (3 * o + 1) ∷ node_name (3 * o + 2) ∷ [])

-- those of k organisations, from o on
abbrev pub organisation_trees : ℕ → ℕ → Items
organisation_trees o zero = no_items
organisation_trees o (suc k) = item (organisation_tree o) (organisation_trees (o + 1) k)

-- the quorum set of every node
abbrev pub trial_set_tree : ℕ → Data
trial_set_tree n = set_tree (organisation_trees 0 n) (wanted n) []

-- a node with its key and its quorum set
abbrev pub node_tree : Data → ℕ → Data
node_tree set v = object (member (codes "publicKey") (string (node_name v)) (member (codes "quorumSet") set no_members))

-- k nodes with this quorum set, from v on
abbrev pub node_trees : Data → ℕ → ℕ → Items
node_trees set v zero = no_items
node_trees set v (suc k) = item (node_tree set v) (node_trees set (v + 1) k)

-- the configuration
unfoldable pub trial_tree : ℕ → Data
trial_tree n = array (node_trees (trial_set_tree n) 0 (3 * n))

-- its text, without spaces
unfoldable pub trial_text : ℕ → List ℕ
trial_text n = compact_text (trial_tree n)
