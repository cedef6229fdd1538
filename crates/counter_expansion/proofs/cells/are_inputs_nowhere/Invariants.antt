use Rattle.counter_expansion.specs.Counters.{IsNowhere, AreNowhere, AreKept}
use Rattle.counter_expansion.proofs.Lists.{AllBefore}
use Rattle.counter_expansion.proofs.cells.are_inputs_nowhere.Given as goal

abbrev pub invariant-loop-counter : goal.invariant-loop-counter
invariant-loop-counter l = AllBefore (λ c. AreNowhere l.cells c.inputs.items × AreNowhere l.cells c.heads.items × AreKept (IsNowhere l.cells) c) l.counters l.counter-index
