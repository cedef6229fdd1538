-- A system as a configuration writes it, in which every name is a node: a tree of JSON.
use Rattle.std.specs.Prelude.{◌≡◌, ℕ, List, [], ◌∷◌, Option, Some, None, option_map, slice_index_or, codes, All, IfSome}
use Rattle.serde_json.specs.Data.{Data, unsigned, number, string, array, object, Items, no_items, item, no_members, member}
use Rattle.serde_json.specs.Written.{compact_text}
use Rattle.fbas_model.specs.Names.{Name}
use Rattle.fbas_model.specs.Trees.{QuorumSet, quorum_set, Entries, none, node, inner}
use Rattle.fbas_model.specs.Fbas.{Fbas}
use Rattle.fbas_model.specs.Systems.{System}
use Rattle.node_json.specs.Named.{NamedSet, NamedSets, named_set, no_sets, one_set, NamedNode}

-- ---- by names

abbrev pub name_of : List Name → ℕ → Name
name_of names v = slice_index_or names v []

-- the names of the nodes among the entries
abbrev pub validators_named : List Name → Entries → List Name
validators_named names none = []
validators_named names (node w rest) = name_of names w ∷ validators_named names rest
validators_named names (inner q rest) = validators_named names rest

abbrev mutual
  -- the quorum set with the names of its nodes
  pub named : List Name → QuorumSet → NamedSet
  named names (quorum_set k entries) = named_set k (validators_named names entries) (inner_named names entries)

  -- the inner quorum sets among the entries
  pub inner_named : List Name → Entries → NamedSets
  inner_named names none = no_sets
  inner_named names (node w rest) = inner_named names rest
  inner_named names (inner q rest) = one_set (named names q) (inner_named names rest)

-- the nodes of these keys and quorum sets, in order
abbrev pub nodes_by : List Name → List Name → Fbas → List NamedNode
nodes_by names [] sets = []
nodes_by names (key ∷ keys) [] = []
nodes_by names (key ∷ keys) (set ∷ sets) = record { key = key; quorum_set = option_map (named names) set } ∷ nodes_by names keys sets

-- every name of the system as a node
abbrev pub nodes_named : System → List NamedNode
nodes_named s = nodes_by s.names s.names s.sets

-- ---- as a tree

-- texts as items
abbrev pub strings : List Name → Items
strings [] = no_items
strings (name ∷ names) = item (string name) (strings names)

-- a quorum set by its threshold, its validators and its inner sets
abbrev pub set_with : ℕ → Data → Data → Data
set_with threshold validators inners = object (member (codes "innerQuorumSets") inners
    (member (codes "threshold") (number (unsigned threshold))
    (member (codes "validators") validators no_members)))

abbrev mutual
  -- a quorum set
  pub set_data : NamedSet → Data
  set_data (named_set threshold validators inners) = set_with threshold (array (strings validators)) (array (sets_data inners))

  pub sets_data : NamedSets → Items
  sets_data no_sets = no_items
  sets_data (one_set s ss) = item (set_data s) (sets_data ss)

-- a node without a quorum set, and one with a quorum set
abbrev pub bare_node : Name → Data
bare_node key = object (member (codes "publicKey") (string key) no_members)

abbrev pub node_with : Name → Data → Data
node_with key set = object (member (codes "publicKey") (string key) (member (codes "quorumSet") set no_members))

-- a node by its key, and its quorum set if it has one
abbrev pub node_by : Name → Option NamedSet → Data
node_by key None = bare_node key
node_by key (Some s) = node_with key (set_data s)

abbrev pub nodes_data : List NamedNode → Items
nodes_data [] = no_items
nodes_data (n ∷ ns) = item (node_by n.key n.quorum_set) (nodes_data ns)

-- a configuration
abbrev pub config_data : List NamedNode → Data
config_data nodes = array (nodes_data nodes)

-- the text of a system's configuration, without spaces
unfoldable pub config_text : System → List ℕ
config_text s = compact_text (config_data (nodes_named s))

-- ---- quorum sets as the program has them

abbrev mutual
  -- the nodes of the set come before its inner sets, and so in these
  pub IsListed : QuorumSet → Type 0
  IsListed (quorum_set k entries) = HasNodesFirst entries

  pub HasNodesFirst : Entries → Type 0
  HasNodesFirst none = Unit {0}
  HasNodesFirst (node w rest) = HasNodesFirst rest
  HasNodesFirst (inner q rest) = IsListed q × AreInner rest

  -- inner sets alone
  pub AreInner : Entries → Type 0
  AreInner none = Unit {0}
  AreInner (node w rest) = ⊥
  AreInner (inner q rest) = IsListed q × AreInner rest

abbrev pub AreListed : Fbas → Type 0
AreListed sets = All (λ o. IfSome o IsListed) sets

-- a tree is that of the node v of a system, whose quorum set has its nodes first
pub record IsNodeTree (s : System) (v : ℕ) (tree : Data) : Type 0 where
  pub is : tree ≡ node_by (name_of s.names v) (option_map (named s.names) (slice_index_or s.sets v None))
  pub listed : IfSome (slice_index_or s.sets v None) IsListed
