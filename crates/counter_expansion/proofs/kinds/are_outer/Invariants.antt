use Rattle.std.proofs.Common.{◌≡◌}
use Rattle.lrat_model.specs.Literal.{variable_of}
use Rattle.counter_expansion.specs.Counters.{cell_at}
use Rattle.counter_expansion.proofs.Lists.{AllBefore}
use Rattle.counter_expansion.proofs.kinds.are_outer.Given as goal

abbrev pub invariant-loop-l : goal.invariant-loop-l
invariant-loop-l l = AllBefore (λ m. (cell_at l.cells (variable_of m)).row ≡ 0) l.clause l.l-index
