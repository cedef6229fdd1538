use Rattle.std.proofs.Common.{◌≡◌, take}
use Rattle.quorum_questions.proofs.searching.values_of.Given as goal

abbrev pub invariant-loop-before : goal.invariant-loop-before
invariant-loop-before l = l.values.items ≡ take l.before l.solver.values
