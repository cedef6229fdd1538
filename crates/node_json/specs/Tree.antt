-- The data that a tree over borrowed text stands for, and whether each of its numbers is in range.
use Rattle.std.specs.Prelude.{◌&&◌, Bool, true, List, is_some, unwrap_or, pos}
use Rattle.std.specs.declared.alloc.Global.{Global}
use Rattle.json.specs.Json as json
use Rattle.json.specs.Value.{value_view}
use Rattle.json.specs.Value as json_view
use Rattle.json.specs.declared.value.Value.{Value}
use Rattle.serde_json.specs.Data.{Data, null, boolean, number, negative, string, array, object, Items, no_items, item, Members, no_members, put}
use Rattle.serde_json.specs.Read.{number_of}

-- The members go in one after another, so the last value of a key stays. A number out of range is no whole number.
abbrev mutual
  pub data_of : json.Json → Data
  data_of json.null = null
  data_of (json.boolean b) = boolean b
  data_of (json.number s) = number (unwrap_or (number_of s) (negative (pos 0)))
  data_of (json.string s) = string s
  data_of (json.array js) = array (items_of js)
  data_of (json.object ms) = object (members_of ms no_members)

  pub items_of : json.Items → Items
  items_of json.no_items = no_items
  items_of (json.item j js) = item (data_of j) (items_of js)

  pub members_of : json.Members → Members → Members
  members_of json.no_members found = found
  members_of (json.member k j ms) found = members_of ms (put k (data_of j) found)

-- each number is in range
abbrev mutual
  pub is_in_range : json.Json → Bool
  is_in_range json.null = true
  is_in_range (json.boolean b) = true
  is_in_range (json.number s) = is_some (number_of s)
  is_in_range (json.string s) = true
  is_in_range (json.array js) = items_in_range js
  is_in_range (json.object ms) = members_in_range ms

  pub items_in_range : json.Items → Bool
  items_in_range json.no_items = true
  items_in_range (json.item j js) = is_in_range j && items_in_range js

  pub members_in_range : json.Members → Bool
  members_in_range json.no_members = true
  members_in_range (json.member k j ms) = is_in_range j && members_in_range ms

abbrev pub Tree : Type 0
Tree = Value Global

abbrev pub view : Tree → Data
view v = data_of (value_view v)

abbrev pub items_view : List Tree → Items
items_view vs = items_of (json_view.items_view vs)
