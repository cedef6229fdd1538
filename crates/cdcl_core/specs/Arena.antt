-- What an arena of clauses is seen as.
use Rattle.std.specs.Prelude.{◌≡◌, ◌≤◌, ◌<◌, ◌+◌, ℕ, List, ◌-◌, length, map, take, drop, slice_index_or, All}
use Rattle.lrat_model.specs.Literal.{Literal}
use Rattle.lrat_model.specs.Clauses.{Held}
use Rattle.cdcl_core.specs.declared.clauses.Place.{Place}
use Rattle.cdcl_core.specs.declared.clauses.Clauses.TheInside.{Inside}

-- the literals of a clause
abbrev pub literals_in : List Literal → Place → List Literal
literals_in arena place = take (place.end - place.start) (drop place.start arena)

-- the clauses that stand in the arena
abbrev pub shown_in : List Literal → List Place → Held
shown_in arena places = map (λ p. (p.id, literals_in arena p)) places

abbrev pub shown : Inside → Held
shown s = shown_in s.arena.items s.places.items

-- the place is within the arena
abbrev pub IsWithin : ℕ → Place → Type 0
IsWithin room place = (place.start ≤ place.end) × (place.end ≤ room)

-- the first ones have the ids from 1 on
pub record IsDense (dense : ℕ) (places : List Place) : Type 0 where
  pub bound : dense ≤ length places
  pub ids : (p : ℕ) (d : Place) → p < dense → (slice_index_or places p d).id ≡ p + 1

pub record IsArena (s : Inside) : Type 0 where
  pub within : All (IsWithin (length s.arena.items)) s.places.items
  pub dense : IsDense s.dense s.places.items
