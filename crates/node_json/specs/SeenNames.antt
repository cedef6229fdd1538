-- Names in order, and some of them by slots.
use Rattle.std.specs.Prelude.{◌<◌, ℕ, List, Option, length, All, IfSome, IsTrue}
use denote.Ref.{Bor}
use Rattle.std.specs.List.Sorted.{IsStrictlySortedBy}
use Rattle.fbas_model.specs.Names.{Name, name_cmp, is_among}

-- the names rise, there are slots, and a slot that has a name has one of the names
pub record AreSeen (names : List Name) (slots : List (Option (Bor (List ℕ)))) : Type 0 where
  pub sorted : IsStrictlySortedBy name_cmp names
  pub some : 0 < length slots
  pub among : All (λ slot. IfSome slot (λ name. IsTrue (is_among name.now names))) slots
