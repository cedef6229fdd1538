use Rattle.counter_expansion.specs.Counters.{IsVariable, AreVariables, AreKept}
use Rattle.counter_expansion.proofs.Lists.{AllBefore}
use Rattle.counter_expansion.proofs.writing.have_variables.Given as goal

abbrev pub invariant-loop-counter : goal.invariant-loop-counter
invariant-loop-counter l = AllBefore (λ c. AreVariables l.bound c.inputs.items × AreVariables l.bound c.heads.items × AreKept (IsVariable l.bound) c) l.counters l.counter-index
