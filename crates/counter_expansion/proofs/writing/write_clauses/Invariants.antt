use Rattle.std.proofs.Common.{◌-◌}
use Rattle.counter_expansion.proofs.WrittenLaws.{IsPassedUpTo}
use Rattle.counter_expansion.proofs.writing.write_clauses.Given as goal

abbrev pub invariant-loop-above : goal.invariant-loop-above
invariant-loop-above l = IsPassedUpTo l.counters l.cells l.formula.held l.initial.store.held l.store.held l.above

abbrev pub decreases-loop-above : goal.decreases-loop-above
decreases-loop-above l = l.last - l.above
