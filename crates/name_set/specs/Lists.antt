-- Names that stand in a text, and the fault of a text that names no nodes.
use Rattle.std.specs.Prelude.{ℕ, ◌+◌, ◌==◌, List, [], ◌∷◌, Result, Ok, Err, ok_or, if◌then◌else◌}
use Rattle.std.specs.List.{slice_split}
use Rattle.fbas_model.specs.Nodes.{Table}
use Rattle.fbas_model.specs.Names.{Name, is_key, place_of, marks}
use Rattle.name_set.specs.declared.lists.NameFault.{NameFault}
use Rattle.name_set.specs.declared.lists.NameFault.TheVariants.{Empty, BadKey, Unknown}

-- the items between commas: the empty text has none
abbrev pub items_of : List ℕ → List Name
items_of [] = []
items_of (b ∷ bytes) = slice_split (λ c. c == 44) (b ∷ bytes)

-- the node of the name that stands at place k, or its fault: it is empty, or no key, or not among the names
abbrev pub node_at : List Name → ℕ → Name → Result ℕ NameFault
node_at names k [] = Err (Empty k)
node_at names k (b ∷ bytes) = if is_key (b ∷ bytes) then ok_or (place_of names (b ∷ bytes)) (Unknown k) else Err (BadKey k)

-- the fault, or else the second result
abbrev pub unless_fault : Result ℕ NameFault → Result Table NameFault → Result Table NameFault
unless_fault (Ok v) r = r
unless_fault (Err e) r = Err e

-- the first fault of the items, which stand from place k on, or else the result
abbrev pub unless_faulty : List Name → ℕ → List Name → Result Table NameFault → Result Table NameFault
unless_faulty names k [] r = r
unless_faulty names k (item ∷ items) r = unless_fault (node_at names k item) (unless_faulty names (k + 1) items r)

-- the nodes of the list of names that a text is, or the fault of its first faulty item, whose place counts from 1
unfoldable pub names_read : List ℕ → List Name → Result Table NameFault
names_read text names = unless_faulty names 1 (items_of text) (Ok (marks names (items_of text)))

-- the node of the one name that a text is, or its fault
unfoldable pub name_read : List ℕ → List Name → Result ℕ NameFault
name_read text names = node_at names 1 text
