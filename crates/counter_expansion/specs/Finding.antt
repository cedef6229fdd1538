-- What unit propagation finds, as derivations, whatever the order of hints.
use Rattle.std.specs.Prelude.{◌≡◌, ◌≢◌, ◌⊎◌, ℕ, true, Some, List}
use Rattle.lrat_model.specs.Literal.{Literal, negated, has, IsSubset}
use Rattle.lrat_model.specs.Clauses.{Held, clause_at}

-- the clause is held
abbrev pub IsHeld : Held → List Literal → Type 0
IsHeld held clause = (id : ℕ) × (clause_at held id ≡ Some clause)

-- where these literals are true, the clauses held make l true, or have all literals of some clause false
pub data Finds (held : Held) (trues : List Literal) : Literal → Type 0 where
  Given : (l : Literal) → has trues l ≡ true → Finds held trues l
  By : (l : Literal) (clause : List Literal) → IsHeld held clause → ((m : Literal) → has clause m ≡ true → l ≢ m → Finds held trues (negated m)) → Finds held trues l

-- all literals of the clause but l are false
abbrev pub FalseBut : Held → List Literal → Literal → List Literal → Type 0
FalseBut held trues l clause = (m : Literal) → has clause m ≡ true → l ≢ m → Finds held trues (negated m)

-- all literals of some clause held are false
abbrev pub IsRefuted : Held → List Literal → Type 0
IsRefuted held trues = (clause : List Literal) × IsHeld held clause × ((m : Literal) → has clause m ≡ true → Finds held trues (negated m))

-- beside the clauses held this one is not needed: it is a tautology, or one held is a subset of it
abbrev pub IsNeedless : Held → List Literal → Type 0
IsNeedless held clause =
    ((m : Literal) × (has clause m ≡ true) × (has clause (negated m) ≡ true))
    ⊎ ((part : List Literal) × IsHeld held part × IsSubset part clause)
