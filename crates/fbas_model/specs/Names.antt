-- The names of nodes: public keys as byte strings, in byte order.
use Rattle.std.specs.Prelude.{ℕ, List, length, map, Bool, not, ◌&&◌, ◌==◌, ◌↔◌, nat_le, Contains, Option, position}
use Rattle.std.specs.List.{list_all, list_any}
use Rattle.std.specs.Str.{bytes_eq}
use Rattle.std.specs.Ordering.{nat_cmp}
use Rattle.std.specs.declared.cmp.Ordering.{Ordering}
use Rattle.std.specs.Cmp.Lexicographic.{slice_cmp}
use Rattle.std.specs.List.Sorted.{IsStrictlySortedBy}
use Rattle.fbas_model.specs.Nodes.{Table}
use Rattle.fbas_model.specs.declared.TheConstants.{MOST_KEY_BYTES}

abbrev pub Name : Type 0
Name = List ℕ

-- a printable byte that is no space and no comma
abbrev pub is_key_byte : ℕ → Bool
is_key_byte b = nat_le 0x21 b && nat_le b 0x7E && not (b == 44)

-- a name that a configuration may give to a node: 1 to `MOST_KEY_BYTES` such bytes
abbrev pub is_key : Name → Bool
is_key name = nat_le 1 (length name) && nat_le (length name) MOST_KEY_BYTES && list_all is_key_byte name

-- byte order, where a prefix comes first
abbrev pub name_cmp : Name → Name → Ordering
name_cmp = slice_cmp nat_cmp

-- the distinct names of a list, in order
pub record AreNamesOf (given names : List Name) : Type 0 where
  pub sorted : IsStrictlySortedBy name_cmp names
  pub same : (name : Name) → Contains names name ↔ Contains given name

-- the place of a name among names, counted from 0: the number of the node that has it
abbrev pub place_of : List Name → Name → Option ℕ
place_of names name = position (λ n. bytes_eq n name) names

-- whether the name is one of the names
abbrev pub is_among : Name → List Name → Bool
is_among name names = list_any (bytes_eq name) names

-- which of the names are chosen
abbrev pub marks : List Name → List Name → Table
marks names chosen = map (λ name. is_among name chosen) names
