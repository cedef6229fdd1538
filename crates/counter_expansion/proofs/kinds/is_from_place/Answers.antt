use Rattle.counter_expansion.proofs.CounterClauses.{of_step}
use Rattle.counter_expansion.proofs.kinds.is_from_place.Goals as goal

pub returns : goal.returns
returns c = λ is.
    let found = c.in-Some.ensures.lookup in
    of_step c.args.counters.now c.args.place.gate c.in-Some.counter.now found.0 found.1 c.args.clause.now (c.is_step.ensures is)
