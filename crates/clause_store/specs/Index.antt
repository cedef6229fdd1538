-- What is true of an index.
use Rattle.std.specs.Prelude.{ℕ, ◌≤◌, ◌<◌, List, All}
use Rattle.clause_store.specs.declared.index.Entry.{Entry}
use Rattle.clause_store.specs.Entries.{IsRising, AreApart}

-- the entry's literals lie in an arena of this size
abbrev pub IsWithin : ℕ → Entry → Type 0
IsWithin size e = (e.start ≤ e.end) × (e.end ≤ size)

-- what is true of the index of an arena of this size, with this last id
pub record IsIndex (size : ℕ) (entries : List Entry) (last : ℕ) : Type 0 where
  pub within : All (IsWithin size) entries
  pub apart : AreApart entries
  pub rising : IsRising entries
  pub bounded : All (λ e. e.id ≤ last) entries
  pub positive : All (λ e. 0 < e.id) entries
