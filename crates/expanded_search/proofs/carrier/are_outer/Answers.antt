use Rattle.std.proofs.Common.{refl}
use Rattle.expanded_search.proofs.CarrierLaws.{nowhere_more, nowhere_whole}
use Rattle.expanded_search.proofs.carrier.are_outer.Goals as goal

pub loop-l-preserved : goal.loop-l-preserved
loop-l-preserved c = nowhere_more c.args.cells.now c.args.lits.now c.loop-l.l-index c.l-item.result c.loop-l-test.true c.loop-l.invariant c.l-item.is (c.if-not-is_outer.ensures refl)

pub returns : goal.returns
returns c = λ _. nowhere_whole c.args.cells.now c.args.lits.now c.loop-l.l-index c.loop-l-test.false c.loop-l.invariant
