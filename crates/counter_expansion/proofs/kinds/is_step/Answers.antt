use Rattle.std.proofs.Common.{inl, inr}
use Rattle.counter_expansion.proofs.kinds.is_step.Goals as goal

pub returns-then-is_first : goal.returns-then-is_first
returns-then-is_first c = λ _. inl (c.is_first.ensures c.if-is_first.true)

pub returns : goal.returns
returns c = λ is. inr (c.is_second.ensures is)
