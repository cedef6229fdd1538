use Rattle.std.proofs.Common.{◌≡◌, length}
use Rattle.encoder_tests.proofs.circuits.set.Given as goal

abbrev pub invariant-loop-v : goal.invariant-loop-v
invariant-loop-v l = length l.set ≡ 3
