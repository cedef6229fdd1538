use Rattle.std.specs.Prelude.{All}
use Rattle.fbas_model.specs.QuorumSets.{IsBelow}
use Rattle.fbas_tests.proofs.plain.quorum_set.Given as goal

abbrev pub invariant-loop-threshold : goal.invariant-loop-threshold
invariant-loop-threshold g l = All (IsBelow l.n) l.inner.items
