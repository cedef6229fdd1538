use Rattle.std.proofs.Common.{◌≡◌, length}
use Rattle.fbas_tests.proofs.node_sets.sets_are_plain_sets.Given as goal

abbrev pub invariant-loop-step : goal.invariant-loop-step
invariant-loop-step g l = length l.other ≡ 4
