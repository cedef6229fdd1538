-- What the fields of a store show.
use Rattle.std.specs.Prelude.{length}
use Rattle.lrat_model.specs.Steps.{Database}
use Rattle.clause_store.specs.declared.store.Store.TheInside.{Inside}
use Rattle.clause_store.specs.Shown.{held_in}
use Rattle.clause_store.specs.Index.{IsIndex}

-- what a store is seen as
abbrev pub shown : Inside → Database
shown s = record { held = held_in s.arena.items s.entries.items; last = s.last }

-- what is true of each store
abbrev pub IsArena : Inside → Type 0
IsArena s = IsIndex (length s.arena.items) s.entries.items s.last
