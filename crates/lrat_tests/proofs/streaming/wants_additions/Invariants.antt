use Rattle.std.proofs.Common.{◌≡◌, None}
use Rattle.lrat_tests.proofs.streaming.wants_additions.Given as goal

abbrev pub invariant-loop-id : goal.invariant-loop-id
invariant-loop-id g l = l.checker.open_addition ≡ None
