use Rattle.std.specs.Prelude.{IsSome}
use Rattle.lrat_tests.proofs.shared.streamed.Given as goal

abbrev pub invariant-loop-hint : goal.invariant-loop-hint
invariant-loop-hint l = IsSome l.checker.open_addition
