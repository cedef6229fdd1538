use Rattle.std.proofs.Common.{◌∙◌}
use Rattle.threshold_circuit.proofs.ViewLaws.{gate_view, circuit_view_at_least}
use Rattle.threshold_circuit.proofs.GatheredLaws.{copied_more, copied_all}
use Rattle.threshold_circuit.proofs.Circuit.+copy.Goals as goal

pub loop-entry-preserved : goal.loop-entry-preserved
loop-entry-preserved t c =
    copied_more c.loop-entry.entry-index c.deref-entry-items.result.now c.loop-entry.copies.items c.entry-item.result c.in_ok-copy-in-AtLeast.field-0 c.push.new.self.items c.loop-entry-test.true c.entry-item.is c.in_ok-copy-in-AtLeast.ensures c.in_ok-push-in-AtLeast.ensures.items c.loop-entry.invariant

pub returns-after-loop-entry : goal.returns-after-loop-entry
returns-after-loop-entry t c =
    let is = gate_view c.in-AtLeast.threshold c.args.self.now c.in-AtLeast.entries c.deref-entry-items.result.now c.in-AtLeast.is c.deref-entry-items.ensures.value in
    circuit_view_at_least c.in-AtLeast.threshold c.loop-entry.copies ∙ copied_all c.in-AtLeast.threshold c.loop-entry.entry-index c.deref-entry-items.result.now c.loop-entry.copies.items c.args.self.now is c.loop-entry-test.false c.loop-entry.invariant
