use Rattle.std.proofs.Common.{◌≡◌, length}
use Rattle.sets_bench.specs.declared.TheConstants.{NODES}
use Rattle.sets_bench.proofs.thirds.Given as goal

abbrev pub invariant-loop-v : goal.invariant-loop-v
invariant-loop-v l = length l.set ≡ NODES
