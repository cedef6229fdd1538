-- The clauses that are held: a map from ids to clauses, as the list of its entries.
use Rattle.std.specs.Prelude.{◌≡◌, ℕ, ◌==◌, ◌+◌, ◌++◌, Bool, true, not, List, [], ◌∷◌, filter, if◌then◌else◌, Option, None, Some}
use Rattle.std.specs.List.{list_any}
use Rattle.lrat_model.specs.Literal.{Literal, clause_true}

-- ids with their clauses; an id's first entry counts
abbrev pub Held : Type 0
Held = List (ℕ × List Literal)

-- the clause under an id
abbrev pub clause_at : Held → ℕ → Option (List Literal)
clause_at [] id = None
clause_at (e ∷ held) id = if e.0 == id then Some e.1 else clause_at held id

-- one more clause is held
abbrev pub with_clause : Held → ℕ → List Literal → Held
with_clause held id clause = held ++ (id, clause) ∷ []

-- whether the id is in the list
abbrev pub has_id : List ℕ → ℕ → Bool
has_id ids id = list_any (λ k. k == id) ids

-- the clauses of these ids are held no more
abbrev pub without : Held → List ℕ → Held
without held ids = filter (λ e. not (has_id ids e.0)) held

-- the clauses of a formula in order, under this id and those that follow it
abbrev pub numbered : ℕ → List (List Literal) → Held
numbered id [] = []
numbered id (clause ∷ clauses) = (id, clause) ∷ numbered (id + 1) clauses

-- each clause held is true in the assignment
abbrev pub Satisfies : (ℕ → Bool) → Held → Type 0
Satisfies v held = (id : ℕ) (clause : List Literal) → clause_at held id ≡ Some clause → clause_true v clause ≡ true

-- no assignment makes all clauses held true
abbrev pub IsUnsatisfiable : Held → Type 0
IsUnsatisfiable held = (v : ℕ → Bool) → Satisfies v held → ⊥
