use Rattle.lrat_model.specs.Ranges.{AreInRange}
use Rattle.solver_bench.proofs.reading.read_clauses.Given as goal

abbrev pub invariant-loop-line : goal.invariant-loop-line
invariant-loop-line l = AreInRange l.vars l.store.held
