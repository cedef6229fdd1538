-- Organisations: what the bytes of a file of them say, and the nodes that a list of their ids stands for.
use Rattle.std.specs.Prelude.{◌≡◌, ℕ, ◌+◌, List, [], ◌∷◌, ◌++◌, length, map, not, Option, option_and_then, option_map, unwrap_or, Contains, ok_or, Result, Ok, Err, codes, nat_lt, if◌then◌else◌}
use Rattle.std.specs.List.{find, list_any}
use Rattle.std.specs.Str.{bytes_eq}
use Rattle.serde_json.specs.Data.{Data, Items, no_items, item}
use Rattle.serde_json.specs.Find.{get, as_array}
use Rattle.fbas_model.specs.declared.TheConstants.{MOST_ORGS}
use Rattle.fbas_model.specs.Names.{Name, is_among, marks}
use Rattle.fbas_model.specs.Nodes.{Nodes, Table, members}
use Rattle.fbas_model.specs.Restriction.{table_from}
use Rattle.name_set.specs.Lists.{items_of, unless_faulty}
use Rattle.name_set.specs.declared.lists.NameFault.{NameFault}
use Rattle.node_json.specs.Reading.{and_then, after, unless, tree_of, is_object, key_of, validators_of}
use Rattle.node_json.specs.declared.faults.OrgFault.{OrgFault}
use Rattle.node_json.specs.declared.faults.OrgFault.TheVariants.{NotJson, NotOrgs, BadOrg, DuplicateOrg, TooManyOrgs}

-- ---- as the file writes them

-- an organisation: its id, and the names of its validators
pub record NamedOrg : Type 0 where
  pub id : Name
  pub validators : List Name

-- the id of element i
abbrev pub org_id_of : ℕ → Data → Result Name OrgFault
org_id_of i d = unless (BadOrg i) (is_object d) (ok_or (option_and_then key_of (get (codes "id") d)) (BadOrg i))

-- the validators of element i
abbrev pub org_validators_of : ℕ → Data → Result (List Name) OrgFault
org_validators_of i d = ok_or (validators_of d) (BadOrg i)

-- element i, where earlier elements have the ids `earlier`
abbrev pub org_of : ℕ → List Name → Data → Result NamedOrg OrgFault
org_of i earlier d = and_then (λ id. unless (DuplicateOrg i) (not (is_among id earlier))
    (after (λ validators. record { id = id; validators = validators }) (org_validators_of i d)))
    (org_id_of i d)

-- the elements from i on
abbrev pub orgs_from : ℕ → List Name → Items → Result (List NamedOrg) OrgFault
orgs_from i earlier no_items = Ok []
orgs_from i earlier (item d ds) =
    and_then (λ org. after (λ orgs. org ∷ orgs) (orgs_from (i + 1) (earlier ++ org.id ∷ []) ds)) (org_of i earlier d)

-- the organisations of a tree, or its first fault
unfoldable pub orgs_in : Data → Result (List NamedOrg) OrgFault
orgs_in tree = and_then (orgs_from 0 []) (ok_or (as_array tree) NotOrgs)

-- no more of them than the limit
abbrev pub within_orgs : List NamedOrg → Result (List NamedOrg) OrgFault
within_orgs orgs = if nat_lt MOST_ORGS (length orgs) then Err (TooManyOrgs (length orgs)) else Ok orgs

-- the organisations of a file's bytes, or its first fault
unfoldable pub named_orgs_of : List ℕ → Result (List NamedOrg) OrgFault
named_orgs_of bytes = and_then within_orgs (and_then orgs_in (ok_or (tree_of bytes) NotJson))

-- ---- among the nodes of a system

-- an organisation: its id, and which of the nodes are its validators
pub record Org : Type 0 where
  pub id : Name
  pub members : Table

-- the organisation among the nodes of these names: a validator that has none of them is dropped
abbrev pub among_nodes : List Name → NamedOrg → Org
among_nodes names org = record { id = org.id; members = marks names org.validators }

-- the organisations of a file's bytes among the nodes of these names, or the first fault
unfoldable pub orgs_of : List Name → List ℕ → Result (List Org) OrgFault
orgs_of names bytes = after (map (among_nodes names)) (named_orgs_of bytes)

-- ---- lists of ids

abbrev pub ids_of : List Org → List Name
ids_of orgs = map (λ org. org.id) orgs

-- the members of the organisation that has the id, if one has it
abbrev pub members_under : List Org → Name → Option Table
members_under orgs id = option_map (λ org. org.members) (find (λ org. bytes_eq org.id id) orgs)

-- no organisation has the id
abbrev pub HasNone : List Org → Name → Type 0
HasNone orgs id = (org : Org) → Contains orgs org → org.id ≡ id → ⊥

-- the nodes that are members of an organisation whose id is listed
abbrev pub members_of : List Org → List Name → Nodes
members_of orgs ids v = list_any (λ id. members (unwrap_or (members_under orgs id) []) v) ids

-- the nodes, of n, of the list of ids that a text is, or the fault of its first faulty item, as a list of names has it
unfoldable pub ids_read : List ℕ → List Org → ℕ → Result Table NameFault
ids_read text orgs n = unless_faulty (ids_of orgs) 1 (items_of text) (Ok (table_from 0 n (members_of orgs (items_of text))))
