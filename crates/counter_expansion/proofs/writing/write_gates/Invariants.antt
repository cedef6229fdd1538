use Rattle.counter_expansion.proofs.WrittenLaws.{GatesWritten}
use Rattle.counter_expansion.proofs.writing.write_gates.Given as goal

abbrev pub invariant-loop-place : goal.invariant-loop-place
invariant-loop-place l = GatesWritten l.counters l.initial.store.held l.store.held l.place
