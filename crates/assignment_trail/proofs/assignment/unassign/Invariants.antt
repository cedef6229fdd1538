use Rattle.std.proofs.Common.{◌≡◌, true, drop}
use Rattle.lrat_model.specs.Literal.{Literal, has}
use Rattle.assignment_trail.specs.Values.{true_by}
use Rattle.assignment_trail.proofs.assignment.unassign.Given as goal

abbrev pub invariant-loop-l : goal.invariant-loop-l
invariant-loop-l l = (t : Literal) → true_by l.values t ≡ true → has (drop l.l-index l.trail) t ≡ true
