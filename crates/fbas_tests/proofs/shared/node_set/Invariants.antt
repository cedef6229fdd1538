use Rattle.std.proofs.Common.{◌≡◌, length}
use Rattle.fbas_tests.proofs.shared.node_set.Given as goal

abbrev pub invariant-loop-v : goal.invariant-loop-v
invariant-loop-v l = length l.set ≡ l.n
