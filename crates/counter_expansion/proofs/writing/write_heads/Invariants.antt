use Rattle.counter_expansion.proofs.WrittenLaws.{HeadsWritten}
use Rattle.counter_expansion.proofs.writing.write_heads.Given as goal

abbrev pub invariant-loop-place : goal.invariant-loop-place
invariant-loop-place l = HeadsWritten l.counter l.initial.store.held l.store.held l.place
