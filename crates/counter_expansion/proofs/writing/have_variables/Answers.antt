use Rattle.std.proofs.Common.{subst, arith}
use Rattle.counter_expansion.specs.Counters.{IsVariable, AreVariables, AreKept}
use Rattle.counter_expansion.proofs.Lists.{all_before_more}
use Rattle.counter_expansion.proofs.writing.have_variables.Goals as goal

pub loop-counter-preserved : goal.loop-counter-preserved
loop-counter-preserved c =
    all_before_more (λ k. AreVariables c.args.bound k.inputs.items × AreVariables c.args.bound k.heads.items × AreKept (IsVariable c.args.bound) k) c.args.counters.now c.loop-counter.counter-index c.loop-counter.invariant c.counter-item.result c.counter-item.is (
      subst (λ vs. AreVariables c.args.bound vs) c.deref.ensures.value (c.are_variables.ensures c.if-not-are_variables.false),
      subst (λ vs. AreVariables c.args.bound vs) c.deref-else-not-are_variables.ensures.value (c.are_variables-else-not-are_variables.ensures c.if-not-are_variables-2.false),
      c.are_kept_variables.ensures c.if-not-are_kept_variables.false,
    )

pub returns : goal.returns
returns c = λ _. λ k d within. c.loop-counter.invariant k d (omega arith) within
