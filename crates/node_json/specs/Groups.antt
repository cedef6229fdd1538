-- Groups: the organisations of a system, and each of its nodes that is in none.
use Rattle.std.specs.Prelude.{ℕ, ◌<◌, List, [], ◌++◌, length, map, not, codes, slice_index_or, unwrap_or, IsTrue}
use Rattle.std.specs.List.{list_any}
use Rattle.fbas_model.specs.Names.{Name, marks}
use Rattle.fbas_model.specs.Nodes.{Nodes, Table, members, only, listed_from}
use Rattle.fbas_model.specs.Restriction.{table_from, kept as kept_of}
use Rattle.node_json.specs.NamesInOrder.{in_order}
use Rattle.node_json.specs.Organisations.{Org, ids_of, members_under}

-- a group: its text, and which nodes are its members
pub record Group : Type 0 where
  pub text : Name
  pub members : Table

abbrev pub texts_of : List Group → List Name
texts_of groups = map (λ group. group.text) groups

abbrev pub tables_of : List Group → List Table
tables_of groups = map (λ group. group.members) groups

-- which of the names `kept` are those of the marked nodes
abbrev pub cut_by_name : List Name → List Name → Table → Table
cut_by_name names kept marked = marks kept (kept_of marked names)

-- the group of the organisation of the id: its members are cut by name to the nodes that are kept
abbrev pub org_group : List Name → List Name → List Org → Name → Group
org_group names kept orgs id = record { text = codes "org:" ++ id; members = cut_by_name names kept (unwrap_or (members_under orgs id) []) }

-- the groups of the organisations, in the order of their ids
abbrev pub org_groups : List Name → List Name → List Org → List Group
org_groups names kept orgs = map (org_group names kept orgs) (in_order (ids_of orgs))

-- the group of a node
abbrev pub node_group : List Name → ℕ → Group
node_group kept v = record { text = codes "node:" ++ slice_index_or kept v []; members = table_from 0 (length kept) (only v) }

-- the members of the groups
abbrev pub grouped : List Group → Nodes
grouped groups v = list_any (λ group. members group.members v) groups

-- which of n nodes are in none of the groups
abbrev pub loose : ℕ → List Group → Table
loose n groups = table_from 0 n (λ v. not (grouped groups v))

-- the groups of the nodes, then those of the organisations
abbrev pub with_loose : List Name → List Group → List Group
with_loose kept groups = map (node_group kept) (listed_from 0 (loose (length kept) groups)) ++ groups

-- the groups of the system of the names `kept`, a restriction of that of `names`, in the order of their texts
unfoldable pub groups_of : List Name → List Name → List Org → List Group
groups_of names kept orgs = with_loose kept (org_groups names kept orgs)

-- each of n nodes is in a group
abbrev pub CoverNodes : ℕ → List Group → Type 0
CoverNodes n groups = (v : ℕ) → v < n → IsTrue (grouped groups v)
