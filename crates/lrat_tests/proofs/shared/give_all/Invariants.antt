use Rattle.std.proofs.Common.{◌≡◌}
use Rattle.lrat_tests.proofs.shared.give_all.Given as goal

abbrev pub invariant-loop-numbers : goal.invariant-loop-numbers
invariant-loop-numbers l = l.checker.vars ≡ l.vars
