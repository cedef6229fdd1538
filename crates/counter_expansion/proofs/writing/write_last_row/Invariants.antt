use Rattle.counter_expansion.proofs.WrittenLaws.{IsRowWritten}
use Rattle.counter_expansion.proofs.writing.write_last_row.Given as goal

abbrev pub invariant-loop-before : goal.invariant-loop-before
invariant-loop-before l = IsRowWritten l.counter l.initial.store.held l.store.held l.before
