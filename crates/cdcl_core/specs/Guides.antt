-- What a guide owes: that it is made for the variables.
use Rattle.std.specs.Prelude.{◌≡◌, ℕ, ◌+◌, length}
use Rattle.cdcl_core.specs.declared.guide.Guide.{Guide}

-- the order is of these variables, and each has a mark
pub record IsGuide (vars : ℕ) (guide : Guide) : Type 0 where
  pub ordered : guide.order ≡ vars
  pub marked : length guide.marks ≡ vars + 1
