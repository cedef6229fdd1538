-- RAT hints that are kept while an addition is open.
use Rattle.std.specs.Prelude.{◌≡◌, ℕ, ◌≤◌, ◌==◌, ◌||◌, true, List, length, ℤ, Some}
use Rattle.lrat_model.specs.Literal.{Literal, has}
use Rattle.lrat_model.specs.Clauses.{Held, clause_at, has_id}
use Rattle.rat_candidates.specs.Groups.{ids_in}
use Rattle.rat_candidates.specs.Occurrences.{occurrences, occurrences_in}

-- what they are seen as: the hints, and for how many there is room
pub record Kept : Type 0 where
  pub hints : List ℤ
  pub room : ℕ

-- no id that hints name is higher
abbrev pub IsHighest : List ℤ → ℕ → Type 0
IsHighest hints highest = (k : ℕ) → has_id (ids_in hints) k ≡ true → k ≤ highest

-- the later hints name this id, and those that the earlier ones named
abbrev pub NamesToo : List ℤ → ℕ → List ℤ → Type 0
NamesToo earlier id later = (k : ℕ) → has_id (ids_in later) k ≡ (has_id (ids_in earlier) k || (id == k))

-- a clause with the literal is held under the id
abbrev pub IsCandidate : Held → Literal → ℕ → Type 0
IsCandidate held l id = (clause : List Literal) × (clause_at held id ≡ Some clause) × (has clause l ≡ true)

-- there is room for a hint for each time that the literal stands in the clauses, and no more hints than times in those that they name
pub record HasRoom (held : Held) (l : Literal) (kept : Kept) : Type 0 where
  pub room : occurrences l held ≤ kept.room
  pub few : length kept.hints ≤ occurrences_in l (ids_in kept.hints) held
