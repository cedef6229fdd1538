use Rattle.std.proofs.Common.{◌≤◌}
use Rattle.lrat_model.specs.Ranges.{AreInRange}
use Rattle.lrat_tests.proofs.tests.store.Given as goal

abbrev pub invariant-loop-numbers : goal.invariant-loop-numbers
invariant-loop-numbers l = AreInRange l.vars l.store.held × (l.store.last ≤ 100)
