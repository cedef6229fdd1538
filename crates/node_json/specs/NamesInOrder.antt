-- Names in byte order, each once.
use Rattle.std.specs.Prelude.{List, [], fold}
use Rattle.std.specs.BTreeSet.{insert_key}
use Rattle.fbas_model.specs.Names.{Name, name_cmp}

-- names in order, with more put in: each in its place, unless it is there
abbrev pub with_names : List Name → List Name → List Name
with_names before names = fold (insert_key name_cmp) before names

-- the names in byte order, each once
abbrev pub in_order : List Name → List Name
in_order names = with_names [] names
