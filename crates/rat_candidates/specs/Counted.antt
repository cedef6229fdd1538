-- Counts of literals: a place for each literal of each variable.
use Rattle.std.specs.Prelude.{◌≡◌, true, ℕ, ◌+◌, ◌*◌, ◌≤◌, ◌<◌, List, [], ◌∷◌, Option, Some, None, slice_index_or}
use Rattle.lrat_model.specs.Literal.{Literal, Plus, Minus}
use Rattle.lrat_model.specs.Clauses.{Held, clause_at, has_id}
use Rattle.rat_candidates.specs.Occurrences.{times, occurrences}

-- the place of a literal
abbrev pub place_of : Literal → ℕ
place_of (Plus x) = 2 * x
place_of (Minus x) = 2 * x + 1

-- the count at a literal's place, the greatest value where there is none
abbrev pub count_of : List ℕ → Literal → ℕ
count_of counts l = slice_index_or counts (place_of l) 4294967295

-- the count is not below this number, unless it is at the greatest value, which says nothing
abbrev pub IsOver : List ℕ → Literal → ℕ → Type 0
IsOver counts l n = count_of counts l < 4294967295 → n ≤ count_of counts l

-- no count is below the number of times that its literal stands in the clauses held
abbrev pub AreCounted : List ℕ → Held → Type 0
AreCounted counts held = (l : Literal) → IsOver counts l (occurrences l held)

-- how often the literal stands in a clause that was found, and in the clauses of some ids
abbrev pub times_found : Literal → Option (List Literal) → ℕ
times_found l None = 0
times_found l (Some clause) = times l clause

abbrev pub listed : Literal → Held → List ℕ → ℕ
listed l held [] = 0
listed l held (id ∷ ids) = times_found l (clause_at held id) + listed l held ids

-- the ids of the clauses held up to this one
pub record AreUpTo (held : Held) (above : ℕ) (ids : List ℕ) : Type 0 where
  pub below : (k : ℕ) → has_id ids k ≡ true → k ≤ above
  pub each : (k : ℕ) (clause : List Literal) → clause_at held k ≡ Some clause → k ≤ above → has_id ids k ≡ true
