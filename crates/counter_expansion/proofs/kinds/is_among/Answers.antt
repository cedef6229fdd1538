use Rattle.counter_expansion.proofs.CounterClauses.{among}
use Rattle.counter_expansion.proofs.kinds.is_among.Goals as goal

pub returns-in-Some : goal.returns-in-Some
returns-in-Some c = λ is.
    let found = c.in-Some.ensures.lookup in
    among c.args.numbers.now c.partition_point.result c.in-Some.found.now c.args.number found.0 found.1 is
