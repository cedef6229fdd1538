use Rattle.std.proofs.Common.{ℕ, ◌+◌, [], length, rules, refl, ap, subst, sym, ◌∙◌, arith}
use Rattle.threshold_circuit.specs.Circuits.{at_least, HasThresholds}
use Rattle.threshold_circuit.specs.Gates.{own_variables}
use Rattle.threshold_circuit.specs.Views.{circuit_view, inputs_view}
use Rattle.threshold_circuit.specs.declared.Circuit.TheViews.{the_lemmas}
use Rattle.threshold_circuit.proofs.ViewLaws.{gate_view}
use Rattle.threshold_circuit.proofs.CountLaws.{gate_facts}
use Rattle.clause_encoder.specs.CircuitClauses.{inputs_clauses}
use Rattle.clause_encoder.specs.SharedGates.{place_of, gates_in}
use Rattle.clause_encoder.proofs.CountLaws.{counting_none, next_counted, counting_more, counting_all}
use Rattle.clause_encoder.proofs.GateWriting.{AllWritten, none_by, gate_absent, gate_after_is}
use Rattle.clause_encoder.proofs.CircuitLaws.{inputs_written}
use Rattle.clause_encoder.proofs.CircuitFills.{gate_variables_some}
use Rattle.threshold_circuit.proofs.GatheredLaws.{input_count_view}
use Rattle.clause_encoder.proofs.count.+count_circuit.Goals as goal

pub loop-entry-init : goal.loop-entry-init
loop-entry-init t c =
    let is = gate_view c.in-AtLeast.threshold c.args.circuit.now c.in-AtLeast.entries c.deref-entry-items.result.now c.in-AtLeast.is c.deref-entry-items.ensures.value in
    record {
      counting = counting_none c.args.shared.now.version (place_of c.args.next c.args.shared.now) c.in-AtLeast.threshold c.args.circuit.now c.deref-entry-items.result.now is c.requires.thresholds c.requires.few;
      version = refl;
    }

pub count_circuit-requires : goal.count_circuit-requires
count_circuit-requires t c =
    let is = gate_view c.in-AtLeast.threshold c.args.circuit.now c.in-AtLeast.entries c.deref-entry-items.result.now c.in-AtLeast.is c.deref-entry-items.ensures.value in
    let facts = gate_facts c.in-AtLeast.threshold c.args.circuit.now c.deref-entry-items.result.now is c.requires.thresholds c.requires.few in
    let version = c.args.shared.now.version in
    let start = place_of c.args.next c.args.shared.now in
    let place = place_of c.loop-entry.free c.loop-entry.shared in
    let items = c.deref-entry-items.result.now in
    let next = next_counted version start place c.loop-entry.entry-index c.entry-item.result items c.loop-entry-test.true c.entry-item.is c.loop-entry.invariant.counting in
    (search (rules, the_lemmas), (next.thresholds, (next.few, omega (arith, next.room, facts.size, c.requires.room))))

pub loop-entry-preserved : goal.loop-entry-preserved
loop-entry-preserved t c =
    let is = gate_view c.in-AtLeast.threshold c.args.circuit.now c.in-AtLeast.entries c.deref-entry-items.result.now c.in-AtLeast.is c.deref-entry-items.ensures.value in
    let facts = gate_facts c.in-AtLeast.threshold c.args.circuit.now c.deref-entry-items.result.now is c.requires.thresholds c.requires.few in
    let version = c.args.shared.now.version in
    let start = place_of c.args.next c.args.shared.now in
    let place = place_of c.loop-entry.free c.loop-entry.shared in
    let items = c.deref-entry-items.result.now in
    let was = c.loop-entry.invariant in
    record {
      counting = counting_more version start place c.loop-entry.entry-index c.entry-item.result items c.loop-entry-test.true c.entry-item.is was.counting (place_of c.in_ok-free-in-AtLeast.free c.count_circuit.new.shared) (rw was.version at c.in_ok-free-in-AtLeast.ensures.after);
      version = c.in_ok-free-in-AtLeast.ensures.version ∙ was.version;
    }

pub own_vars-free-requires-clause-within : goal.own_vars-free-requires-clause-within
own_vars-free-requires-clause-within t c =
    let is = gate_view c.in-AtLeast.threshold c.args.circuit.now c.in-AtLeast.entries c.deref-entry-items.result.now c.in-AtLeast.is c.deref-entry-items.ensures.value in
    let facts = gate_facts c.in-AtLeast.threshold c.args.circuit.now c.deref-entry-items.result.now is c.requires.thresholds c.requires.few in
    let version = c.args.shared.now.version in
    let start = place_of c.args.next c.args.shared.now in
    let place = place_of c.loop-entry.free c.loop-entry.shared in
    let items = c.deref-entry-items.result.now in
    let long = c.len.ensures ∙ c.in-AtLeast.entries.ok.0 ∙ ap length (sym c.deref-entry-items.ensures.value) in
    omega (arith, facts.within, long)

pub own_vars-free-requires-clause-few : goal.own_vars-free-requires-clause-few
own_vars-free-requires-clause-few t c =
    let is = gate_view c.in-AtLeast.threshold c.args.circuit.now c.in-AtLeast.entries c.deref-entry-items.result.now c.in-AtLeast.is c.deref-entry-items.ensures.value in
    let facts = gate_facts c.in-AtLeast.threshold c.args.circuit.now c.deref-entry-items.result.now is c.requires.thresholds c.requires.few in
    let version = c.args.shared.now.version in
    let start = place_of c.args.next c.args.shared.now in
    let place = place_of c.loop-entry.free c.loop-entry.shared in
    let items = c.deref-entry-items.result.now in
    let long = c.len.ensures ∙ c.in-AtLeast.entries.ok.0 ∙ ap length (sym c.deref-entry-items.ensures.value) in
    omega (arith, facts.few, long)

pub overflow_add-free : goal.overflow_add-free
overflow_add-free t c =
    let is = gate_view c.in-AtLeast.threshold c.args.circuit.now c.in-AtLeast.entries c.deref-entry-items.result.now c.in-AtLeast.is c.deref-entry-items.ensures.value in
    let facts = gate_facts c.in-AtLeast.threshold c.args.circuit.now c.deref-entry-items.result.now is c.requires.thresholds c.requires.few in
    let version = c.args.shared.now.version in
    let start = place_of c.args.next c.args.shared.now in
    let place = place_of c.loop-entry.free c.loop-entry.shared in
    let items = c.deref-entry-items.result.now in
    let long = c.len.ensures ∙ c.in-AtLeast.entries.ok.0 ∙ ap length (sym c.deref-entry-items.ensures.value) in
    let own = c.own_vars-free.ensures ∙ ap (own_variables c.in-AtLeast.threshold) long in
    omega (arith, own, facts.size, c.loop-entry.invariant.counting.grown, c.requires.room)

pub overflow_sub-free : goal.overflow_sub-free
overflow_sub-free t c =
    let is = gate_view c.in-AtLeast.threshold c.args.circuit.now c.in-AtLeast.entries c.deref-entry-items.result.now c.in-AtLeast.is c.deref-entry-items.ensures.value in
    let facts = gate_facts c.in-AtLeast.threshold c.args.circuit.now c.deref-entry-items.result.now is c.requires.thresholds c.requires.few in
    let version = c.args.shared.now.version in
    let start = place_of c.args.next c.args.shared.now in
    let place = place_of c.loop-entry.free c.loop-entry.shared in
    let items = c.deref-entry-items.result.now in
    let long = c.len.ensures ∙ c.in-AtLeast.entries.ok.0 ∙ ap length (sym c.deref-entry-items.ensures.value) in
    let own = c.own_vars-free.ensures ∙ ap (own_variables c.in-AtLeast.threshold) long in
    let parts : HasThresholds (at_least c.in-AtLeast.threshold (inputs_view items)) = subst HasThresholds is c.requires.thresholds in
    omega (arith, own, gate_variables_some c.in-AtLeast.threshold (length items) parts.0 facts.within)

pub keep-requires : goal.keep-requires
keep-requires t c =
    let is = gate_view c.in-AtLeast.threshold c.args.circuit.now c.in-AtLeast.entries c.deref-entry-items.result.now c.in-AtLeast.is c.deref-entry-items.ensures.value in
    let facts = gate_facts c.in-AtLeast.threshold c.args.circuit.now c.deref-entry-items.result.now is c.requires.thresholds c.requires.few in
    let version = c.args.shared.now.version in
    let start = place_of c.args.next c.args.shared.now in
    let place = place_of c.loop-entry.free c.loop-entry.shared in
    let items = c.deref-entry-items.result.now in
    let long = c.len.ensures ∙ c.in-AtLeast.entries.ok.0 ∙ ap length (sym c.deref-entry-items.ensures.value) in
    let none = sym c.find.ensures ∙ none_by c.find.result (sym c.is_some.ensures ∙ c.if-is_some.false) in
    let written = inputs_clauses version (λ v. v) start (inputs_view items) in
    let all : AllWritten version (λ v. v) start place written.variables [] written.clauses (inputs_view items) = record { variables_are = refl; clauses_are = refl; place_is = counting_all version start place c.loop-entry.entry-index items c.loop-entry-test.false c.loop-entry.invariant.counting } in
    gate_absent version (λ v. v) start place c.in-AtLeast.threshold written.variables [] written.clauses (inputs_view items) (circuit_view c.args.circuit.now) is none all

pub returns-in_ok-keep-in-AtLeast-clause-after : goal.returns-in_ok-keep-in-AtLeast-clause-after
returns-in_ok-keep-in-AtLeast-clause-after t c =
    let is = gate_view c.in-AtLeast.threshold c.args.circuit.now c.in-AtLeast.entries c.deref-entry-items.result.now c.in-AtLeast.is c.deref-entry-items.ensures.value in
    let facts = gate_facts c.in-AtLeast.threshold c.args.circuit.now c.deref-entry-items.result.now is c.requires.thresholds c.requires.few in
    let version = c.args.shared.now.version in
    let start = place_of c.args.next c.args.shared.now in
    let place = place_of c.loop-entry.free c.loop-entry.shared in
    let items = c.deref-entry-items.result.now in
    let long = c.len.ensures ∙ c.in-AtLeast.entries.ok.0 ∙ ap length (sym c.deref-entry-items.ensures.value) in
    let own = c.own_vars-free.ensures ∙ ap (own_variables c.in-AtLeast.threshold) long in
    let none = sym c.find.ensures ∙ none_by c.find.result (sym c.is_some.ensures ∙ c.if-is_some.false) in
    let written = inputs_clauses version (λ v. v) start (inputs_view items) in
    let all : AllWritten version (λ v. v) start place written.variables [] written.clauses (inputs_view items) = record { variables_are = refl; clauses_are = refl; place_is = counting_all version start place c.loop-entry.entry-index items c.loop-entry-test.false c.loop-entry.invariant.counting } in
    let counted = sym (input_count_view items) ∙ sym (inputs_written version (λ v. v) start (inputs_view items)) in
    let gates = rw c.loop-entry.invariant.version at c.in_ok-keep-in-AtLeast.ensures.gates in
    gate_after_is version (λ v. v) start place c.in-AtLeast.threshold written.variables [] written.clauses (inputs_view items) (circuit_view c.args.circuit.now) is none all (c.loop-entry.free + c.own_vars-free.result) (gates_in c.keep.new.self)
    (ap (λ (x : ℕ). c.loop-entry.free + x) (own ∙ ap (own_variables c.in-AtLeast.threshold) counted)) gates
