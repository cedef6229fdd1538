use Rattle.std.proofs.Common.{arith, subst}
use Rattle.counter_expansion.specs.Counters.{IsNowhere, AreNowhere, AreKept}
use Rattle.counter_expansion.proofs.Lists.{all_before_more}
use Rattle.counter_expansion.proofs.cells.are_inputs_nowhere.Goals as goal

pub loop-counter-preserved : goal.loop-counter-preserved
loop-counter-preserved c =
    all_before_more (λ c2. AreNowhere c.args.cells.now c2.inputs.items × AreNowhere c.args.cells.now c2.heads.items × AreKept (IsNowhere c.args.cells.now) c2) c.args.counters.now c.loop-counter.counter-index c.loop-counter.invariant c.counter-item.result c.counter-item.is (
      subst (λ vs. AreNowhere c.args.cells.now vs) c.deref.ensures.value (c.are_nowhere.ensures c.if-not-are_nowhere.false),
      subst (λ vs. AreNowhere c.args.cells.now vs) c.deref-else-not-are_nowhere.ensures.value (c.are_nowhere-else-not-are_nowhere.ensures c.if-not-are_nowhere-2.false),
      c.are_kept_nowhere.ensures c.if-not-are_kept_nowhere.false,
    )

pub returns : goal.returns
returns c = λ _. λ k d within. c.loop-counter.invariant k d (omega arith) within
