-- When a lemma tells what propagation does not.
use Rattle.std.specs.Prelude.{◌≡◌, ◌⊎◌, ℕ, true, not, List, map, filter, ℤ, Some, length, ◌<◌}
use Rattle.lrat_model.specs.Literal.{Literal, negated, same, has, IsSubset, IsConsistent}
use Rattle.lrat_model.specs.Clauses.{Held, clause_at}
use Rattle.lrat_model.specs.Propagation.{Conflict, Leaves, propagate, Follows}

-- the other literals of a clause
abbrev pub others : Literal → List Literal → List Literal
others l clause = filter (λ m. not (same l m)) clause

-- from these true literals the hints come to a clause with all literals false, or make the literal true
abbrev pub Settles : Held → List Literal → Literal → List ℤ → Type 0
Settles held trues l hints = (propagate held trues 1 hints ≡ Conflict) ⊎ ((now : List Literal) × (propagate held trues 1 hints ≡ Leaves now) × (has now l ≡ true))

-- for some literal of the clause, no hints settle it from the negations of the others
abbrev pub IsUseful : Held → List Literal → Type 0
IsUseful held clause = (l : Literal) × (has clause l ≡ true) × ((hints : List ℤ) → Settles held (map negated (others l clause)) l hints → ⊥)

-- no clause held is a subset of it
abbrev pub IsNew : Held → List Literal → Type 0
IsNew held clause = (id : ℕ) (other : List Literal) → clause_at held id ≡ Some other → IsSubset other clause → ⊥

-- a lemma is due: some clause with a literal and without a contradiction follows, and would be useful
abbrev pub IsDue : Held → Type 0
IsDue held = (clause : List Literal) × (hints : List ℤ) × (0 < length clause) × IsConsistent clause × Follows held clause hints × IsUseful held clause
