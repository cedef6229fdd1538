-- The clauses that entries show in an arena.
use Rattle.std.specs.Prelude.{List, [], ◌∷◌, slice_range, if◌then◌else◌}
use Rattle.lrat_model.specs.Literal.{Literal}
use Rattle.lrat_model.specs.Clauses.{Held}
use Rattle.clause_store.specs.declared.index.Entry.{Entry}

-- the literals of an entry
abbrev pub clause_in : List Literal → Entry → List Literal
clause_in arena e = slice_range arena e.start e.end

-- the clauses of the entries that are held
abbrev pub held_in : List Literal → List Entry → Held
held_in arena [] = []
held_in arena (e ∷ entries) = if e.is_held then (e.id, clause_in arena e) ∷ held_in arena entries else held_in arena entries
