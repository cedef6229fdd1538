use Rattle.std.proofs.Common.{◌<◌}
use Rattle.counter_expansion.proofs.Lists.{AllBefore}
use Rattle.counter_expansion.proofs.writing.are_variables.Given as goal

abbrev pub invariant-loop-number : goal.invariant-loop-number
invariant-loop-number l = AllBefore (λ v. (0 < v) × (v < l.bound)) l.numbers l.number-index
