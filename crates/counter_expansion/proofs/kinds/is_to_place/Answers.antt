use Rattle.counter_expansion.proofs.CounterClauses.{of_head, of_second, of_step}
use Rattle.counter_expansion.proofs.kinds.is_to_place.Goals as goal

pub returns-then-is_head : goal.returns-then-is_head
returns-then-is_head c = λ _.
    let found = c.in-Some.ensures.lookup in
    of_head c.args.counters.now c.args.place.gate c.in-Some.counter.now found.0 found.1 c.args.clause.now (c.is_head.ensures c.if-is_head.true)

pub returns-then-is_step : goal.returns-then-is_step
returns-then-is_step c = λ _.
    let found = c.in-Some.ensures.lookup in
    of_step c.args.counters.now c.args.place.gate c.in-Some.counter.now found.0 found.1 c.args.clause.now (c.is_step.ensures c.if-is_step.true)

pub returns : goal.returns
returns c = λ is.
    let found = c.in-Some.ensures.lookup in
    of_second c.args.counters.now c.args.place.gate c.in-Some.counter.now found.0 found.1 c.args.clause.now (c.is_second.ensures is)
