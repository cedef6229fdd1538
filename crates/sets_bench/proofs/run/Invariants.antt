use Rattle.std.proofs.Common.{◌≡◌, length}
use Rattle.sets_bench.specs.declared.TheConstants.{NODES}
use Rattle.sets_bench.proofs.run.Given as goal

abbrev pub invariant-loop-round : goal.invariant-loop-round
invariant-loop-round l = length l.set ≡ NODES
