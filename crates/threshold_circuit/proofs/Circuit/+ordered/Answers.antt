use Rattle.std.proofs.Common.{List, ap, ◌∙◌}
use Rattle.threshold_circuit.specs.declared.Circuit.{Circuit}
use Rattle.threshold_circuit.specs.Gathering.{joined}
use Rattle.threshold_circuit.specs.Ordered.{each_ordered}
use Rattle.threshold_circuit.specs.Views.{inputs_view}
use Rattle.threshold_circuit.proofs.ViewLaws.{gate_view, circuit_view_at_least}
use Rattle.threshold_circuit.proofs.SortedLaws.{each_more, sorted_all}
use Rattle.threshold_circuit.proofs.Circuit.+ordered.Goals as goal

pub loop-entry-init : goal.loop-entry-init
loop-entry-init t c = ap (λ (cs : List Circuit). joined (inputs_view cs) (each_ordered (inputs_view c.deref-entry-items.result.now))) c.new-sorted.ensures.items

pub loop-entry-preserved : goal.loop-entry-preserved
loop-entry-preserved t c =
    each_more c.loop-entry.entry-index c.deref-entry-items.result.now c.loop-entry.sorted.items c.entry-item.result c.in_ok-ordered-in-AtLeast.field-0 c.push.new.self.items c.loop-entry-test.true c.entry-item.is c.in_ok-ordered-in-AtLeast.ensures c.in_ok-push-in-AtLeast.ensures.items c.loop-entry.invariant

pub returns-in_ok-sort-in-AtLeast : goal.returns-in_ok-sort-in-AtLeast
returns-in_ok-sort-in-AtLeast t c =
    let is = gate_view c.in-AtLeast.threshold c.args.self.now c.in-AtLeast.entries c.deref-entry-items.result.now c.in-AtLeast.is c.deref-entry-items.ensures.value in
    circuit_view_at_least c.in-AtLeast.threshold c.sort.new.self
    ∙ sorted_all c.in-AtLeast.threshold c.loop-entry.entry-index c.deref-entry-items.result.now c.loop-entry.sorted.items c.sort.new.self.items c.args.self.now is c.loop-entry-test.false c.loop-entry.invariant
    c.in_ok-sort-in-AtLeast.ensures.permutation c.in_ok-sort-in-AtLeast.ensures.sorted
