use Rattle.std.proofs.Common.{ℕ, List, Option, ap, subst, sym, ◌∙◌, arith}
use Rattle.std.specs.Prelude.{IfSome}
use Rattle.threshold_circuit.specs.Circuits.{Circuit}
use Rattle.threshold_circuit.specs.Views.{circuit_view}
use Rattle.clause_encoder.specs.CircuitClauses.{Place}
use Rattle.clause_encoder.specs.Known.{HasGate, AreKnown}
use Rattle.clause_encoder.specs.SharedGates.{place_of, gates_in}
use Rattle.clause_encoder.specs.Written.{variable_in, circuit_of_kind}
use Rattle.clause_encoder.proofs.KindLaws.{known_kept, known_more, known_low}
use Rattle.clause_encoder.proofs.PlaceLaws.{node_grows, node_after_circuit}
use Rattle.clause_encoder.proofs.sides.push_node_of_kind.Goals as goal

pub overflow_cast-gate : goal.overflow_cast-gate
overflow_cast-gate c =
    let low = known_low c.args.next (gates_in c.args.gates.now.shared) (circuit_of_kind c.args.circuits.now c.args.kind) c.in-Some.gate c.requires.gates (c.requires.known c.args.kind c.in-Some.gate (sym c.gate.ensures ∙ c.in-Some.is)) in
    let grows = node_grows c.args.gates.now.shared.version (variable_in c.args.variables.now) (place_of c.args.next c.args.gates.now.shared) c.args.node (circuit_of_kind c.args.circuits.now c.args.kind) in
    omega (arith, low.1, grows, c.requires.room, c.requires.small)

pub of-requires-clause-some : goal.of-requires-clause-some
of-requires-clause-some c =
    let low = known_low c.args.next (gates_in c.args.gates.now.shared) (circuit_of_kind c.args.circuits.now c.args.kind) c.in-Some.gate c.requires.gates (c.requires.known c.args.kind c.in-Some.gate (sym c.gate.ensures ∙ c.in-Some.is)) in
    low.0

pub of-requires-clause-small : goal.of-requires-clause-small
of-requires-clause-small c =
    let low = known_low c.args.next (gates_in c.args.gates.now.shared) (circuit_of_kind c.args.circuits.now c.args.kind) c.in-Some.gate c.requires.gates (c.requires.known c.args.kind c.in-Some.gate (sym c.gate.ensures ∙ c.in-Some.is)) in
    let grows = node_grows c.args.gates.now.shared.version (variable_in c.args.variables.now) (place_of c.args.next c.args.gates.now.shared) c.args.node (circuit_of_kind c.args.circuits.now c.args.kind) in
    omega (arith, low.1, grows, c.requires.room, c.requires.small)

pub returns-clause-known : goal.returns-clause-known
returns-clause-known c =
    let gates = gates_in c.push_node.new.shared in
    let circuits = c.args.circuits.now in
    let known = c.args.gates.now.known in
    let version = c.args.gates.now.shared.version in
    let p = variable_in c.args.variables.now in
    let place = place_of c.args.next c.args.gates.now.shared in
    let d = circuit_view c.of_kind-circuit.result.now in
    let after = c.in_ok-free.ensures.after ∙ node_after_circuit version p place c.args.node d in
    let kept = known_kept version p place d gates circuits known (ap (λ (at : Place). at.gates) after) c.requires.known in
    let found = subst (λ (e : Circuit). IfSome c.gate-2.result (HasGate gates e)) c.of_kind-circuit.ensures c.gate-2.ensures in
    subst (λ (ks : List (Option ℕ)). AreKnown gates circuits ks) (sym c.note.ensures) (known_more gates circuits known c.args.kind c.gate-2.result (omega (arith, c.requires.kind, c.requires.same_kinds)) found kept)
