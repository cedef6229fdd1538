-- What a line of a script says.
use Rattle.std.specs.Prelude.{ℕ, List}
use Rattle.fbas_model.specs.Names.{Name}

-- an edit of the quorum set of a node, or of the one inside it that a path leads to: the places of inner sets from the outside
-- in, counted from 0
pub data Edit : Type 0 where
  -- the quorum set at the path has this threshold
  Threshold : (node : Name) (path : List ℕ) (threshold : ℕ) → Edit
  -- the name is appended to its validators
  Add : (node : Name) (path : List ℕ) (name : Name) → Edit
  -- the first of its validators that has the name goes
  Drop : (node : Name) (path : List ℕ) (name : Name) → Edit
  -- the node gets a quorum set with threshold 1 and no entries
  Declare : (node : Name) → Edit
  -- the node has no quorum set any more
  Retire : (node : Name) → Edit
