-- The values of variables, and the literals that they make true.
use Rattle.std.specs.Prelude.{◌≡◌, ℕ, ◌+◌, ◌<◌, ◌≤◌, Bool, true, false, List, [], ◌∷◌, length, slice_index, slice_index_or, All}
use Rattle.lrat_model.specs.Literal.{Literal, Plus, Minus, variable_of, has}
use Rattle.assignment_trail.specs.declared.assignment.Value.{Value}
use Rattle.assignment_trail.specs.declared.assignment.Value.TheVariants.{Unassigned, True, False}

-- the value that makes a literal true
abbrev pub value_of : Literal → Value
value_of (Plus x) = True
value_of (Minus x) = False

-- whether both values are one
abbrev pub is_value : Value → Value → Bool
is_value Unassigned Unassigned = true
is_value Unassigned True = false
is_value Unassigned False = false
is_value True Unassigned = false
is_value True True = true
is_value True False = false
is_value False Unassigned = false
is_value False True = false
is_value False False = true

-- whether a variable's value makes the literal true
abbrev pub makes_true : Value → Literal → Bool
makes_true Unassigned l = false
makes_true True (Plus x) = true
makes_true True (Minus x) = false
makes_true False (Plus x) = false
makes_true False (Minus x) = true

-- the value of the literal's variable makes it true; a variable stands at its number, so that place 0 is not used
abbrev pub true_by : List Value → Literal → Bool
true_by values l = makes_true (slice_index_or values (variable_of l) Unassigned) l

-- how many variables have a value
abbrev pub assigned : List Value → ℕ
assigned [] = 0
assigned (Unassigned ∷ values) = assigned values
assigned (True ∷ values) = 1 + assigned values
assigned (False ∷ values) = 1 + assigned values

-- the values say what the trail says, and there is room on it for each variable
pub record IsAssignment (values : List Value) (trail : List Literal) (room : ℕ) : Type 0 where
  pub some_place : 1 ≤ length values
  pub enough_room : length values ≤ room
  pub counted : length trail ≤ assigned values
  pub in_range : All (λ l. variable_of l + 1 ≤ length values) trail
  pub agree : (l : Literal) → variable_of l + 1 ≤ length values → true_by values l ≡ has trail l

-- the place of the literal's variable
abbrev pub trail_place : List ℕ → Literal → ℕ
trail_place places l = slice_index places (variable_of l)

-- each variable of the trail has its place there
abbrev pub ArePlaces : List Literal → List ℕ → Type 0
ArePlaces trail places = (i : ℕ) (d : Literal) → i < length trail → trail_place places (slice_index_or trail i d) ≡ i
