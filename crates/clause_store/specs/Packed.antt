-- What is held, without the room of what was removed.
use Rattle.std.specs.Prelude.{ℕ, true, ◌+◌, ◌-◌, List, [], ◌∷◌, ◌++◌, if◌then◌else◌}
use Rattle.lrat_model.specs.Literal.{Literal}
use Rattle.clause_store.specs.declared.index.Entry.{Entry}
use Rattle.clause_store.specs.Shown.{clause_in}

-- how many literals an entry has
abbrev pub size_of : Entry → ℕ
size_of e = e.end - e.start

-- the entry of a clause that is held, where its literals begin at this place
abbrev pub moved : ℕ → Entry → Entry
moved free e = record { id = e.id; start = free; end = free + size_of e; is_held = true }

-- the entries that are held, whose literals stand one after another from this place on
abbrev pub packed : ℕ → List Entry → List Entry
packed free [] = []
packed free (e ∷ es) = if e.is_held then moved free e ∷ packed (free + size_of e) es else packed free es

-- the literals of what is held, in the order of the entries
abbrev pub literals_of : List Literal → List Entry → List Literal
literals_of arena [] = []
literals_of arena (e ∷ es) = if e.is_held then clause_in arena e ++ literals_of arena es else literals_of arena es
