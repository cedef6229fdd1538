use Rattle.std.proofs.Common.{◌<◌, length, arith}
use Rattle.cardinality_counts.proofs.Tallies.{times-more}
use Rattle.cardinality_counts.proofs.gates.lower.Goals as goal

pub loop-g-preserved : goal.loop-g-preserved
loop-g-preserved c = record {
  long = omega (arith, c.lower_one.ensures.long, c.loop-g.invariant.long);
  lowered = λ g less.
      let here : g < length c.loop-g.counts = omega (arith, less, c.loop-g.invariant.long) in
      omega (arith, c.loop-g.invariant.lowered g less, c.lower_one.ensures.lowered g here, times-more c.args.list.now c.loop-g.g-index g (omega arith));
}
