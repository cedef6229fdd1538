use Rattle.counter_expansion.proofs.Choosing.{on_both}
use Rattle.counter_expansion.proofs.WrittenLaws.{written_of_heads, written_of_both, no_row_stays}
use Rattle.counter_expansion.proofs.writing.write_gate.Goals as goal

pub returns-then-not-counter-clause-written : goal.returns-then-not-counter-clause-written
returns-then-not-counter-clause-written c =
    written_of_heads c.args.counter.now c.write_heads.new.store.held c.in_ok-write_heads.ensures.written (λ stays. absurd (no_row_stays c.args.counter.now c.if-not-counter.true stays))

pub returns-clause-written : goal.returns-clause-written
returns-clause-written c =
    on_both c.write_last_row.result _ _ _ c.write_last_row.ensures.written c.write_last_row.ensures.kept
    (λ last kept. written_of_both c.args.counter.now c.write_heads.new.store.held c.write_last_row.new.store.held c.in_ok-write_heads.ensures.written kept last)
