-- Gates, and the clauses that their sets of inputs are.
use Rattle.std.specs.Prelude.{◌≡◌, ◌≢◌, ◌⊎◌, ℕ, ◌<◌, ◌≤◌, ◌==◌, true, false, Bool, if◌then◌else◌, List, [], ◌∷◌, length, slice_index_or, All, AllPairs}
use Rattle.std.specs.List.{list_any}
use Rattle.lrat_model.specs.Literal.{Literal, Plus, Minus, negated, same, has}
use Rattle.cardinality_counts.specs.declared.gate.Gate.{Gate}

-- whether the number is among these
abbrev pub has_number : List ℕ → ℕ → Bool
has_number numbers x = list_any (λ y. y == x) numbers

-- whether the literals are some of the inputs, in their order
abbrev pub is_part : List Literal → List ℕ → Bool
is_part [] inputs = true
is_part (l ∷ ls) [] = false
is_part (l ∷ ls) (x ∷ xs) = if same l (Plus x) then is_part ls xs else is_part (l ∷ ls) xs

-- the clause says that the head is false, or one of a set of the inputs true
abbrev pub IsSetOf : Gate → List Literal → Type 0
IsSetOf gate clause = (set : List Literal) × (clause ≡ Minus gate.head ∷ set) × (length set ≡ gate.size) × (is_part set gate.inputs.items ≡ true)

-- that is so of one of these gates
abbrev pub IsSet : List Gate → List Literal → Type 0
IsSet gates clause = (g : ℕ) × (g < length gates) × ((d : Gate) → IsSetOf (slice_index_or gates g d) clause)

-- head and inputs are among the first variables, and no input stands twice
pub record IsGate (vars : ℕ) (gate : Gate) : Type 0 where
  pub head : (0 < gate.head) × (gate.head ≤ vars)
  pub inputs : All (λ x. (0 < x) × (x ≤ vars)) gate.inputs.items
  pub apart : AllPairs (λ x y. x ≢ y) gate.inputs.items

-- the clause is true, or two of its literals that differ are not false
abbrev pub IsOpen : List Literal → List Literal → Type 0
IsOpen trues clause =
    ((l : Literal) × (has clause l ≡ true) × (has trues l ≡ true))
    ⊎ ((l m : Literal) × (has clause l ≡ true) × (has clause m ≡ true) × (same l m ≡ false) × (has trues (negated l) ≡ false) × (has trues (negated m) ≡ false))
