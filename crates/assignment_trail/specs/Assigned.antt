-- What an assignment is seen as.
use Rattle.std.specs.Prelude.{◌≡◌, ℕ, ◌-◌, List, length, vec_capacity}
use Rattle.lrat_model.specs.Literal.{Literal}
use Rattle.assignment_trail.specs.declared.assignment.Assignment.TheInside.{Inside}
use Rattle.assignment_trail.specs.Values.{ArePlaces, IsAssignment}

-- the number of variables, and the literals that are true
pub record Assigned : Type 0 where
  pub vars : ℕ
  pub trues : List Literal

-- what an assignment is seen as
abbrev pub shown : Inside → Assigned
shown a = record { vars = length a.values.items - 1; trues = a.trail.items }

-- what is true of each assignment
pub record IsSound (a : Inside) : Type 0 where
  pub assigned : IsAssignment a.values.items a.trail.items (vec_capacity a.trail)
  pub places_long : length a.places.items ≡ length a.values.items
  pub placed : ArePlaces a.trail.items a.places.items
