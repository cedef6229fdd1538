-- What the bytes of a configuration say: the nodes by name, or the first fault.
use Rattle.std.specs.Prelude.{ℕ, zero, suc, ◌+◌, List, [], ◌∷◌, ◌++◌, Bool, true, false, not, is_some, Option, Some, None, option_and_then, option_map, ok_or, Result, Ok, Err, codes, if◌then◌else◌}
use Rattle.std.specs.Str.{is_utf8}
use Rattle.serde_json.specs.Data.{Data, null, boolean, number, string, array, object, Items, no_items, item}
use Rattle.serde_json.specs.Find.{get, as_array, as_object, as_number, as_str, as_u64}
use Rattle.serde_json.specs.Read.{read}
use Rattle.fbas_model.specs.declared.TheConstants.{MOST_LEVELS}
use Rattle.fbas_model.specs.Names.{Name, is_key, is_among}
use Rattle.node_json.specs.Named.{NamedSet, NamedSets, named_set, no_sets, one_set, NamedNode}
use Rattle.node_json.specs.declared.faults.SetFault.TheVariants.{Shape, Threshold, Validators, Inner}
use Rattle.node_json.specs.declared.faults.ConfigFault.{ConfigFault}
use Rattle.node_json.specs.declared.faults.ConfigFault.TheVariants.{NotJson, NotNodes, NotNode, BadKey, Duplicate, TooDeep, BadQuorumSet}

-- ---- results, one after another

-- goes on with what was read, up to the first fault
abbrev pub and_then : {A B E : Type 0} → (A → Result B E) → Result A E → Result B E
and_then f (Ok a) = f a
and_then f (Err e) = Err e

-- the function of what was read
abbrev pub after : {A B E : Type 0} → (A → B) → Result A E → Result B E
after f (Ok a) = Ok (f a)
after f (Err e) = Err e

-- the result where the test passes, or else the fault
abbrev pub unless : {A E : Type 0} → E → Bool → Result A E → Result A E
unless e true r = r
unless e false r = Err e

-- ---- the tree

-- the tree of the bytes, if they are UTF-8 and JSON (RFC 8259)
unfoldable pub tree_of : List ℕ → Option Data
tree_of bytes = if is_utf8 bytes then read bytes else None

-- the member of a name, where a `null` counts as missing
abbrev pub or_missing : Option Data → Option Data
or_missing None = None
or_missing (Some null) = None
or_missing (Some (boolean b)) = Some (boolean b)
or_missing (Some (number n)) = Some (number n)
or_missing (Some (string s)) = Some (string s)
or_missing (Some (array ds)) = Some (array ds)
or_missing (Some (object ms)) = Some (object ms)

-- whether it has members
abbrev pub is_object : Data → Bool
is_object d = is_some (as_object d)

-- ---- keys

-- the name, if it is a key
abbrev pub key_if : Name → Option Name
key_if name = if is_key name then Some name else None

-- a string that is a key
abbrev pub key_of : Data → Option Name
key_of d = option_and_then key_if (as_str d)

-- the keys that the items are, if each is one
abbrev pub keys_in : Items → Option (List Name)
keys_in no_items = Some []
keys_in (item d ds) = option_and_then (λ k. option_map (λ ks. k ∷ ks) (keys_in ds)) (key_of d)

-- ---- quorum sets

-- missing is empty, and an array is its items
abbrev pub items_or_none : Option Data → Option Items
items_or_none None = Some no_items
items_or_none (Some d) = as_array d

-- a whole number from 0 to 2^64 - 1
abbrev pub threshold_of : Data → Option ℕ
threshold_of d = option_and_then as_u64 (option_and_then as_number (get (codes "threshold") d))

-- keys, or nothing
abbrev pub validators_of : Data → Option (List Name)
validators_of d = option_and_then keys_in (items_or_none (or_missing (get (codes "validators") d)))

-- the items that are to be quorum sets, or nothing
abbrev pub inner_of : Data → Option Items
inner_of d = items_or_none (or_missing (get (codes "innerQuorumSets") d))

-- each item by `one`, up to the first fault
abbrev pub sets_by : (Data → Result NamedSet ConfigFault) → Items → Result NamedSets ConfigFault
sets_by one no_items = Ok no_sets
sets_by one (item d ds) = and_then (λ s. after (one_set s) (sets_by one ds)) (one d)

-- the inner quorum sets of a quorum set of element i, each by `one`
abbrev pub inner_by : (Data → Result NamedSet ConfigFault) → ℕ → Data → Result NamedSets ConfigFault
inner_by one i d = and_then (sets_by one) (ok_or (inner_of d) (BadQuorumSet i Inner))

-- a quorum set of element i, whose inner sets are read by `one`: the set itself comes before those in it
abbrev pub set_by : (Data → Result NamedSet ConfigFault) → ℕ → Data → Result NamedSet ConfigFault
set_by one i d = unless (BadQuorumSet i Shape) (is_object d)
    (and_then (λ threshold.
    and_then (λ validators. after (named_set threshold validators) (inner_by one i d))
    (ok_or (validators_of d) (BadQuorumSet i Validators)))
    (ok_or (threshold_of d) (BadQuorumSet i Threshold)))

-- a quorum set of element i, where sets may nest this many levels deep
unfoldable pub set_of : ℕ → ℕ → Data → Result NamedSet ConfigFault
set_of i zero d = Err (TooDeep i)
set_of i (suc levels) d = set_by (set_of i levels) i d

-- ---- nodes

-- the quorum set of element i that the member is, or none where there is no member
abbrev pub set_if_any : ℕ → Option Data → Result (Option NamedSet) ConfigFault
set_if_any i None = Ok None
set_if_any i (Some d) = after Some (set_of i MOST_LEVELS d)

-- the key of element i
abbrev pub node_key_of : ℕ → Data → Result Name ConfigFault
node_key_of i d = unless (NotNode i) (is_object d) (ok_or (option_and_then key_of (get (codes "publicKey") d)) (BadKey i))

-- the quorum set of element i, or none where it is missing
abbrev pub node_set_of : ℕ → Data → Result (Option NamedSet) ConfigFault
node_set_of i d = set_if_any i (or_missing (get (codes "quorumSet") d))

-- element i, where earlier elements have the keys `earlier`
abbrev pub node_of : ℕ → List Name → Data → Result NamedNode ConfigFault
node_of i earlier d = and_then (λ key. unless (Duplicate i) (not (is_among key earlier))
    (after (λ set. record { key = key; quorum_set = set }) (node_set_of i d)))
    (node_key_of i d)

-- the elements from i on
abbrev pub nodes_from : ℕ → List Name → Items → Result (List NamedNode) ConfigFault
nodes_from i earlier no_items = Ok []
nodes_from i earlier (item d ds) =
    and_then (λ node. after (λ nodes. node ∷ nodes) (nodes_from (i + 1) (earlier ++ node.key ∷ []) ds)) (node_of i earlier d)

-- the declared nodes of a tree, or its first fault
unfoldable pub nodes_in : Data → Result (List NamedNode) ConfigFault
nodes_in tree = and_then (nodes_from 0 []) (ok_or (as_array tree) NotNodes)

-- the declared nodes of a configuration, or its first fault
unfoldable pub nodes_of : List ℕ → Result (List NamedNode) ConfigFault
nodes_of bytes = and_then nodes_in (ok_or (tree_of bytes) NotJson)
