use Rattle.std.proofs.Common.{◌≡◌, length}
use Rattle.sets_bench.proofs.systems.run_system.Given as goal

abbrev pub invariant-loop-round : goal.invariant-loop-round
invariant-loop-round l = length l.scratch ≡ length l.system.sets
