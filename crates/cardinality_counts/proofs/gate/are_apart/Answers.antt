use Rattle.std.proofs.Common.{◌-◌, arith}
use Rattle.cardinality_counts.proofs.Lists.{apart_more}
use Rattle.cardinality_counts.proofs.gate.are_apart.Goals as goal

pub loop-left-preserved : goal.loop-left-preserved
loop-left-preserved c =
    let l = c.loop-left in
    record {
      within = omega arith;
      apart = apart_more c.args.numbers.now (l.left - 1) (omega arith) (λ i j d at. l.invariant.apart i j d (omega arith)) (c.is_among.ensures.none c.if-is_among.false);
    }
