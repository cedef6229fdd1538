use Rattle.std.proofs.Common.{◌≡◌, length}
use Rattle.fbas_tests.proofs.node_sets.thirds.Given as goal

abbrev pub invariant-loop-v : goal.invariant-loop-v
invariant-loop-v g l = length l.set ≡ l.n
