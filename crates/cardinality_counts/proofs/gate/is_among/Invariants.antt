use Rattle.std.proofs.Common.{◌≢◌}
use Rattle.cardinality_counts.proofs.Lists.{AllBefore}
use Rattle.cardinality_counts.proofs.gate.is_among.Given as goal

abbrev pub invariant-loop-other : goal.invariant-loop-other
invariant-loop-other l = AllBefore (λ x. x ≢ l.number) l.numbers l.other-index
