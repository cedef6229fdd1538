-- The index of an arena: entries under rising ids.
use Rattle.std.specs.Prelude.{ℕ, ◌<◌, ◌≤◌, ◌==◌, Bool, ◌&&◌, List, [], ◌∷◌, All, AllPairs, if◌then◌else◌}
use Rattle.std.specs.List.{list_any}
use Rattle.lrat_model.specs.Clauses.{has_id}
use Rattle.clause_store.specs.declared.index.Entry.{Entry}

-- ids rise strictly
abbrev pub IsRising : List Entry → Type 0
IsRising entries = AllPairs (λ e f. e.id < f.id) entries

-- no entry ends before it starts
abbrev pub AreForward : List Entry → Type 0
AreForward entries = All (λ e. e.start ≤ e.end) entries

-- the literals of each entry lie before those of the later ones
abbrev pub AreApart : List Entry → Type 0
AreApart entries = AllPairs (λ e f. e.end ≤ f.start) entries

-- whether an entry of this id is held
abbrev pub is_held_in : List Entry → ℕ → Bool
is_held_in entries id = list_any (λ e. (e.id == id) && e.is_held) entries

-- the entries of these ids marked as held, or as held no more
abbrev pub marked : List Entry → List ℕ → Bool → List Entry
marked [] ids is_held = []
marked (e ∷ entries) ids is_held = (if has_id ids e.id then record e { is_held = is_held } else e) ∷ marked entries ids is_held
