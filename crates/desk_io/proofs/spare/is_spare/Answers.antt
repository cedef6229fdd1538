use Rattle.std.proofs.Common.{rules, take}
use Rattle.std.specs.Prelude.{codes}
use Rattle.desk_io.proofs.Fronted.{text_more}
use Rattle.desk_io.proofs.spare.is_spare.Goals as goal

pub loop-at-preserved : goal.loop-at-preserved
loop-at-preserved g c = record {
  within = search rules;
  read = text_more _ _ _ (codes "fbas-cert ") (take c.in-Some.count c.read_some.new.buf) c.loop-at.at c.in-Some.count c.eq.result c.as_slice-first.result.now c.as_slice-first.ensures c.loop-at.invariant.read c.in-Some.ensures.given c.if-eq.true c.eq.ensures;
}
