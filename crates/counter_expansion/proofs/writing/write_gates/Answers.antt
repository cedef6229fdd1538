use Rattle.std.proofs.Common.{◌^◌, arith}
use Rattle.counter_expansion.proofs.WrittenLaws.{one_of, more_gates_written, all_written}
use Rattle.counter_expansion.proofs.writing.write_gates.Goals as goal

pub write_gate-requires : goal.write_gate-requires
write_gate-requires c =
    let here = one_of c.args.counters.now (2 ^ 31) c.requires c.loop-place.place c.index-counters-place.result c.index-counters-place.is c.loop-place-test.true in
    record { inputs = here.0; heads = here.1; rows = here.2 }

pub loop-place-preserved : goal.loop-place-preserved
loop-place-preserved c =
    more_gates_written c.args.counters.now c.args.store.now.held c.loop-place.store.held c.write_gate.new.store.held c.loop-place.place c.index-counters-place.result c.loop-place.invariant c.index-counters-place.is c.loop-place-test.true
    c.in_ok-write_gate.ensures.written c.in_ok-write_gate.ensures.kept c.in_ok-write_gate.ensures.range

pub returns-clause-written : goal.returns-clause-written
returns-clause-written c = all_written c.args.counters.now c.loop-place.store.held (λ i d less within. c.loop-place.invariant.written i d (omega (arith, within, c.loop-place-test.false)) within)
