-- What the definition says of some files, computed.
use Rattle.std.proofs.Common.{◌≡◌, [], ◌∷◌, Some, None, Ok, Err, codes, refl}
use Rattle.std.specs.Str.{is_utf8, chars}
use Rattle.serde_json.proofs.OnLiterals.{serde_json_on_literals}
use Rattle.fbas_model.specs.Trees.{quorum_set, none, node, inner}
use Rattle.node_json.specs.Configuration.{system_of, system_with}
use Rattle.node_json.specs.Reading.{nodes_of, nodes_in, set_of, tree_of}
use Rattle.node_json.specs.declared.faults.ConfigFault.TheVariants.{NotJson, NotNodes, NotNode, BadKey, Duplicate, BadQuorumSet}
use Rattle.node_json.specs.declared.faults.SetFault.TheVariants.{Shape, Threshold}

no_text : system_of (codes "") ≡ Err NotJson
unfolding serde_json_on_literals system_of system_with nodes_of nodes_in tree_of set_of is_utf8 chars
no_text = refl

no_nodes : system_of (codes "[]") ≡ Ok (record { names = []; sets = [] })
unfolding serde_json_on_literals system_of system_with nodes_of nodes_in tree_of set_of is_utf8 chars
no_nodes = refl

no_array : system_of (codes "{}") ≡ Err NotNodes
unfolding serde_json_on_literals system_of system_with nodes_of nodes_in tree_of set_of is_utf8 chars
no_array = refl

-- an element that is no object has no key, and is no node first
no_object : system_of (codes "[1]") ≡ Err (NotNode 0)
unfolding serde_json_on_literals system_of system_with nodes_of nodes_in tree_of set_of is_utf8 chars
no_object = refl

no_key : system_of (codes "[{}]") ≡ Err (BadKey 0)
unfolding serde_json_on_literals system_of system_with nodes_of nodes_in tree_of set_of is_utf8 chars
no_key = refl

-- of two members of one name the last counts
last_member : system_of (codes "[{\"publicKey\":\"a,\",\"publicKey\":\"b\"}]") ≡ Ok (record { names = codes "b" ∷ []; sets = None ∷ [] })
unfolding serde_json_on_literals system_of system_with nodes_of nodes_in tree_of set_of is_utf8 chars
last_member = refl

-- the key comes before the quorum set
two_of_one_key : system_of (codes "[{\"publicKey\":\"b\"},{\"publicKey\":\"b\",\"quorumSet\":[]}]") ≡ Err (Duplicate 1)
unfolding serde_json_on_literals system_of system_with nodes_of nodes_in tree_of set_of is_utf8 chars
two_of_one_key = refl

fraction : system_of (codes "[{\"publicKey\":\"b\",\"quorumSet\":{\"threshold\":1.0,\"validators\":1}}]") ≡ Err (BadQuorumSet 0 Threshold)
unfolding serde_json_on_literals system_of system_with nodes_of nodes_in tree_of set_of is_utf8 chars
fraction = refl

negative : system_of (codes "[{\"publicKey\":\"b\",\"quorumSet\":{\"threshold\":-1}}]") ≡ Err (BadQuorumSet 0 Threshold)
unfolding serde_json_on_literals system_of system_with nodes_of nodes_in tree_of set_of is_utf8 chars
negative = refl

-- only a node's own quorum set may be null
inner_null : system_of (codes "[{\"publicKey\":\"b\",\"quorumSet\":{\"threshold\":1,\"innerQuorumSets\":[null]}}]") ≡ Err (BadQuorumSet 0 Shape)
unfolding serde_json_on_literals system_of system_with nodes_of nodes_in tree_of set_of is_utf8 chars
inner_null = refl

nothing_missing : system_of (codes "[{\"publicKey\":\"b\",\"quorumSet\":{\"threshold\":0,\"validators\":null,\"innerQuorumSets\":null}}]") ≡ Ok (record { names = codes "b" ∷ []; sets = Some (quorum_set 0 none) ∷ [] })
unfolding serde_json_on_literals system_of system_with nodes_of nodes_in tree_of set_of is_utf8 chars
nothing_missing = refl

-- names get numbers in byte order, and a name that stands twice counts twice
numbers : system_of (codes "[{\"publicKey\":\"b\",\"quorumSet\":{\"threshold\":3,\"validators\":[\"c\",\"a\",\"c\"],\"innerQuorumSets\":[{\"threshold\":1,\"validators\":[\"b\"]}]}}]") ≡ Ok (record { names = codes "a" ∷ codes "b" ∷ codes "c" ∷ []; sets = None ∷ Some (quorum_set 3 (node 2 (node 0 (node 2 (inner (quorum_set 1 (node 1 none)) none))))) ∷ None ∷ [] })
unfolding serde_json_on_literals system_of system_with nodes_of nodes_in tree_of set_of is_utf8 chars
numbers = refl
