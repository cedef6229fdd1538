-- The system of a configuration: names in order, and the quorum set of each name by numbers.
use Rattle.std.specs.Prelude.{ℕ, List, [], ◌∷◌, ◌++◌, length, map, fold, Option, Some, None, option_map, unwrap_or, Result, Ok, Err, nat_lt, if◌then◌else◌}
use Rattle.std.specs.Str.{bytes_eq}
use Rattle.fbas_model.specs.declared.TheConstants.{MOST_NODES, MOST_ENTRIES}
use Rattle.fbas_model.specs.Names.{Name, place_of}
use Rattle.fbas_model.specs.Trees.{QuorumSet, quorum_set, Entries, none, node, inner}
use Rattle.fbas_model.specs.Systems.{System, entries_in}
use Rattle.node_json.specs.NamesInOrder.{in_order}
use Rattle.node_json.specs.Named.{NamedSet, NamedSets, named_set, no_sets, one_set, NamedNode}
use Rattle.node_json.specs.Reading.{and_then, nodes_of}
use Rattle.node_json.specs.declared.faults.ConfigFault.{ConfigFault}
use Rattle.node_json.specs.declared.faults.ConfigFault.TheVariants.{TooManyNodes, TooManyEntries}

-- ---- names

abbrev mutual
  -- the validators of a quorum set, at all depths
  pub names_in_set : NamedSet → List Name
  names_in_set (named_set threshold validators inners) = validators ++ names_in_sets inners

  -- those of quorum sets, one after another
  pub names_in_sets : NamedSets → List Name
  names_in_sets no_sets = []
  names_in_sets (one_set s ss) = names_in_set s ++ names_in_sets ss

-- those of a quorum set, or none
abbrev pub names_if_any : Option NamedSet → List Name
names_if_any None = []
names_if_any (Some s) = names_in_set s

-- every key that is declared or stands in a quorum set
abbrev pub all_names : List NamedNode → List Name
all_names [] = []
all_names (n ∷ ns) = (n.key ∷ names_if_any n.quorum_set) ++ all_names ns

-- ---- numbers

-- a node's number is the place of its name
abbrev pub number_of : List Name → Name → ℕ
number_of names name = unwrap_or (place_of names name) 0

-- the nodes in front of other entries
abbrev pub nodes_then : List ℕ → Entries → Entries
nodes_then [] rest = rest
nodes_then (v ∷ vs) rest = node v (nodes_then vs rest)

abbrev mutual
  -- the quorum set with each name's number in the name's place: its validators, then its inner quorum sets
  pub numbered : List Name → NamedSet → QuorumSet
  numbered names (named_set threshold validators inners) = quorum_set threshold (nodes_then (map (number_of names) validators) (all_numbered names inners))

  -- inner quorum sets as entries
  pub all_numbered : List Name → NamedSets → Entries
  all_numbered names no_sets = none
  all_numbered names (one_set s ss) = inner (numbered names s) (all_numbered names ss)

-- the quorum set that a node of this name declares; no two nodes of a configuration have one name
abbrev pub set_named : List NamedNode → Name → Option NamedSet
set_named nodes name = fold (λ found n. if bytes_eq n.key name then n.quorum_set else found) None nodes

-- ---- the system

-- the names, and at the place of each the quorum set that is declared for it
abbrev pub system_by : List Name → List NamedNode → System
system_by names nodes = record { names = names; sets = map (λ name. option_map (numbered names) (set_named nodes name)) names }

-- the system, if its quorum sets have at most 1,000,000 entries
abbrev pub within_entries : System → Result System ConfigFault
within_entries system = if nat_lt MOST_ENTRIES (entries_in system.sets) then Err (TooManyEntries (entries_in system.sets)) else Ok system

-- the system of the names, if they are not too many
abbrev pub within_nodes : List Name → List NamedNode → Result System ConfigFault
within_nodes names nodes = if nat_lt MOST_NODES (length names) then Err (TooManyNodes (length names)) else within_entries (system_by names nodes)

-- the system of the declared nodes, within the limits
unfoldable pub system_with : List NamedNode → Result System ConfigFault
system_with nodes = within_nodes (in_order (all_names nodes)) nodes

-- the system of a configuration's bytes, or its first fault
unfoldable pub system_of : List ℕ → Result System ConfigFault
system_of bytes = and_then system_with (nodes_of bytes)
