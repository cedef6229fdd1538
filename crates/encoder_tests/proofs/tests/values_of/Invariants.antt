use Rattle.std.proofs.Common.{◌≡◌, length}
use Rattle.encoder_tests.proofs.tests.values_of.Given as goal

abbrev pub invariant-loop-before : goal.invariant-loop-before
invariant-loop-before l = length l.values.items ≡ l.before
