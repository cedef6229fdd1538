-- Clauses that stand in the list of one of their literals each.
use Rattle.std.specs.Prelude.{◌≡◌, ◌⊎◌, ℕ, ◌<◌, ◌==◌, ◌&&◌, Bool, true, false, List, [], length, Some, slice_index_or}
use Rattle.std.specs.List.{list_any}
use Rattle.lrat_model.specs.Literal.{Literal, has, IsSubset}
use Rattle.lrat_model.specs.Clauses.{Held, clause_at}
use Rattle.lrat_checker.specs.Keys.{code_of, signature_of, slot_of}
use Rattle.lrat_checker.specs.declared.subsets.Watch.{Watch}

-- the list of a code
abbrev pub list_at : List (List Watch) → ℕ → List Watch
list_at lists code = slice_index_or lists (slot_of (length lists) code) []

-- whether the watch is that of this clause
abbrev pub is_watch_of : ℕ → List Literal → Watch → Bool
is_watch_of id clause w = (w.id == id) && (w.signature == signature_of clause)

-- the code is that of one of the clause's literals, or of no literal
abbrev pub IsCode : List Literal → ℕ → Type 0
IsCode clause code = (code ≡ 0) ⊎ ((l : Literal) × (has clause l ≡ true) × (code_of l ≡ code))

-- the clause stands in the list of such a code
abbrev pub IsFound : List (List Watch) → ℕ → List Literal → Type 0
IsFound lists id clause = (code : ℕ) × IsCode clause code × (list_any (is_watch_of id clause) (list_at lists code) ≡ true)

-- each clause held does
abbrev pub AreFound : Held → List (List Watch) → Type 0
AreFound held lists = (id : ℕ) (clause : List Literal) → clause_at held id ≡ Some clause → IsFound lists id clause

-- the list of this code has no clause held under a smaller id that is a subset of the literals
abbrev pub NoneIn : List (List Watch) → Held → ℕ → List Literal → ℕ → Type 0
NoneIn lists held id literals code = (k : ℕ) (clause : List Literal) → k < id → clause_at held k ≡ Some clause → IsSubset clause literals → list_any (is_watch_of k clause) (list_at lists code) ≡ false
