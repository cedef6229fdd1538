use Rattle.std.proofs.Common.{length, true, false, ap, sym, ◌∙◌, arith}
use Rattle.fbas_model.specs.Nodes.{members}
use Rattle.threshold_circuit.specs.declared.Circuit.{Circuit}
use Rattle.threshold_circuit.specs.Value.{circuit_value}
use Rattle.threshold_circuit.specs.Views.{circuit_view}
use Rattle.threshold_circuit.proofs.ViewLaws.{gate_view, below_inputs, value_of_inputs}
use Rattle.threshold_circuit.proofs.Values.{value_law}
use Rattle.threshold_circuit.proofs.Circuit.+value.Goals as goal

pub loop-entry-init : goal.loop-entry-init
loop-entry-init t c =
    let is = gate_view c.in-AtLeast.threshold c.args.self.now c.in-AtLeast.entries c.deref-entry-items.result.now c.in-AtLeast.is c.deref-entry-items.ensures.value in
    record {
      within = omega arith;
      counted = omega arith;
      below = below_inputs (length c.args.set.now) c.in-AtLeast.threshold c.args.self.now c.deref-entry-items.result.now is c.requires;
    }

pub returns-after-loop-entry-clause-value : goal.returns-after-loop-entry-clause-value
returns-after-loop-entry-clause-value t c =
    let is = gate_view c.in-AtLeast.threshold c.args.self.now c.in-AtLeast.entries c.deref-entry-items.result.now c.in-AtLeast.is c.deref-entry-items.ensures.value in
    value_of_inputs (members c.args.set.now) c.in-AtLeast.threshold c.loop-entry.count c.loop-entry.entry-index c.args.self.now c.deref-entry-items.result.now is c.loop-entry.invariant.counted c.loop-entry-test.false

pub returns-after-loop-entry-clause-law : goal.returns-after-loop-entry-clause-law
returns-after-loop-entry-clause-law t c g f q e h = value_law (members c.args.set.now) g f q (circuit_view c.args.self.now) _ (returns-after-loop-entry-clause-value t c) e h

pub returns-in-Always-clause-law : goal.returns-in-Always-clause-law
returns-in-Always-clause-law t c g f q e h = value_law (members c.args.set.now) g f q (circuit_view c.args.self.now) true (ap (λ (d : Circuit). circuit_value (members c.args.set.now) (circuit_view d)) (sym c.in-Always.is)) e h

pub returns-in-Never-clause-law : goal.returns-in-Never-clause-law
returns-in-Never-clause-law t c g f q e h = value_law (members c.args.set.now) g f q (circuit_view c.args.self.now) false (ap (λ (d : Circuit). circuit_value (members c.args.set.now) (circuit_view d)) (sym c.in-Never.is)) e h

pub returns-in-Node-clause-law : goal.returns-in-Node-clause-law
returns-in-Node-clause-law t c g f q e h = value_law (members c.args.set.now) g f q (circuit_view c.args.self.now) c.has.result (c.has.ensures ∙ ap (λ (d : Circuit). circuit_value (members c.args.set.now) (circuit_view d)) (sym c.in-Node.is)) e h
