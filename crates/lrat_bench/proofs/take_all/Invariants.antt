use Rattle.std.proofs.Common.{◌≡◌}
use Rattle.lrat_bench.proofs.take_all.Given as goal

abbrev pub invariant-loop-number : goal.invariant-loop-number
invariant-loop-number g l = l.checker.vars ≡ l.vars
