use Rattle.std.proofs.Common.{◌<◌, length, arith}
use Rattle.cardinality_counts.proofs.Tallies.{times-more}
use Rattle.cardinality_counts.proofs.gates.raise.Goals as goal

pub loop-g-preserved : goal.loop-g-preserved
loop-g-preserved c = record {
  long = omega (arith, c.in_ok-raise_one.ensures.long, c.loop-g.invariant.long);
  raised = λ g less.
      let here : g < length c.loop-g.counts = omega (arith, less, c.loop-g.invariant.long) in
      omega (arith, c.loop-g.invariant.raised g less, c.in_ok-raise_one.ensures.raised g here, times-more c.args.list.now c.loop-g.g-index g (omega arith));
}
