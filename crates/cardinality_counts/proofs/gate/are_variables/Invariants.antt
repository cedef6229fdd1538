use Rattle.std.proofs.Common.{◌<◌, ◌≤◌}
use Rattle.cardinality_counts.proofs.Lists.{AllBefore}
use Rattle.cardinality_counts.proofs.gate.are_variables.Given as goal

abbrev pub invariant-loop-number : goal.invariant-loop-number
invariant-loop-number l = AllBefore (λ x. (0 < x) × (x ≤ l.vars)) l.numbers l.number-index
