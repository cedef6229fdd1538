use Rattle.std.proofs.Common.{length, ap, ◌∙◌, sym, arith}
use Rattle.threshold_circuit.specs.Gates.{own_variables}
use Rattle.threshold_circuit.proofs.ViewLaws.{gate_view}
use Rattle.threshold_circuit.proofs.CountLaws.{gate_facts, one_counted, all_counted}
use Rattle.threshold_circuit.proofs.Circuit.+gate_vars.Goals as goal

pub loop-entry-init : goal.loop-entry-init
loop-entry-init t c =
    let is = gate_view c.in-AtLeast.threshold c.args.self.now c.in-AtLeast.entries c.deref-entry-items.result.now c.in-AtLeast.is c.deref-entry-items.ensures.value in
    let facts = gate_facts c.in-AtLeast.threshold c.args.self.now c.deref-entry-items.result.now is c.requires.thresholds c.requires.few in
    record { counted = omega arith; few = facts.all; thresholds = facts.thresholds }

pub overflow_add-count : goal.overflow_add-count
overflow_add-count t c =
    let is = gate_view c.in-AtLeast.threshold c.args.self.now c.in-AtLeast.entries c.deref-entry-items.result.now c.in-AtLeast.is c.deref-entry-items.ensures.value in
    let facts = gate_facts c.in-AtLeast.threshold c.args.self.now c.deref-entry-items.result.now is c.requires.thresholds c.requires.few in
    omega (arith, one_counted c.loop-entry.count c.gate_vars-count.result c.loop-entry.entry-index c.in-AtLeast.threshold c.args.self.now c.entry-item.result c.deref-entry-items.result.now facts c.entry-item.is c.loop-entry-test.true c.gate_vars-count.ensures c.loop-entry.invariant.counted)

pub own_vars-requires-clause-within : goal.own_vars-requires-clause-within
own_vars-requires-clause-within t c =
    let is = gate_view c.in-AtLeast.threshold c.args.self.now c.in-AtLeast.entries c.deref-entry-items.result.now c.in-AtLeast.is c.deref-entry-items.ensures.value in
    let facts = gate_facts c.in-AtLeast.threshold c.args.self.now c.deref-entry-items.result.now is c.requires.thresholds c.requires.few in
    omega (arith, facts.within, c.len.ensures, c.in-AtLeast.entries.ok.0, ap length c.deref-entry-items.ensures.value)

pub own_vars-requires-clause-few : goal.own_vars-requires-clause-few
own_vars-requires-clause-few t c =
    let is = gate_view c.in-AtLeast.threshold c.args.self.now c.in-AtLeast.entries c.deref-entry-items.result.now c.in-AtLeast.is c.deref-entry-items.ensures.value in
    let facts = gate_facts c.in-AtLeast.threshold c.args.self.now c.deref-entry-items.result.now is c.requires.thresholds c.requires.few in
    omega (arith, facts.few, c.len.ensures, c.in-AtLeast.entries.ok.0, ap length c.deref-entry-items.ensures.value)

pub overflow_add-result : goal.overflow_add-result
overflow_add-result t c =
    let is = gate_view c.in-AtLeast.threshold c.args.self.now c.in-AtLeast.entries c.deref-entry-items.result.now c.in-AtLeast.is c.deref-entry-items.ensures.value in
    let facts = gate_facts c.in-AtLeast.threshold c.args.self.now c.deref-entry-items.result.now is c.requires.thresholds c.requires.few in
    let long = c.len.ensures ∙ c.in-AtLeast.entries.ok.0 ∙ ap length (sym c.deref-entry-items.ensures.value) in
    let own = c.own_vars.ensures ∙ ap (own_variables c.in-AtLeast.threshold) long in
    omega (arith, own, facts.size, facts.fits, c.loop-entry.invariant.counted)

pub returns-after-loop-entry : goal.returns-after-loop-entry
returns-after-loop-entry t c =
    let is = gate_view c.in-AtLeast.threshold c.args.self.now c.in-AtLeast.entries c.deref-entry-items.result.now c.in-AtLeast.is c.deref-entry-items.ensures.value in
    let facts = gate_facts c.in-AtLeast.threshold c.args.self.now c.deref-entry-items.result.now is c.requires.thresholds c.requires.few in
    let long = c.len.ensures ∙ c.in-AtLeast.entries.ok.0 ∙ ap length (sym c.deref-entry-items.ensures.value) in
    let own = c.own_vars.ensures ∙ ap (own_variables c.in-AtLeast.threshold) long in
    omega (arith, own, facts.size, all_counted c.loop-entry.count c.loop-entry.entry-index c.deref-entry-items.result.now c.loop-entry-test.false c.loop-entry.invariant.counted)
