use Rattle.std.proofs.Common.{get_or, refl, ap, ◌∙◌, arith}
use Rattle.threshold_circuit.specs.Gates.{gate_variables}
use Rattle.clause_encoder.specs.CircuitClauses.{Place}
use Rattle.clause_encoder.specs.Formula.{side_from}
use Rattle.clause_encoder.specs.SharedGates.{place_of}
use Rattle.clause_encoder.specs.Written.{circuit_in, circuit_of_kind}
use Rattle.clause_encoder.proofs.CountLaws.{side_counted_none, side_counted_room, side_counted_more, side_counted_all}
use Rattle.clause_encoder.proofs.count.count_nodes.Goals as goal

pub loop-node-init : goal.loop-node-init
loop-node-init c =
    let none = c.requires.no_gates in
    record {
      counting = rw none (side_counted_none c.args.shared.now.version (circuit_in c.args.circuits.now) (side_from c.args.next) c.args.nodes.now);
      version = refl;
      same_kinds = c.requires.same_kinds;
      known = c.requires.known;
    }

pub count_node-requires-clause-room : goal.count_node-requires-clause-room
count_node-requires-clause-room c =
    let place = place_of c.loop-node.free c.loop-node.shared in
    let i = c.loop-node.node-index in
    let v = get_or c.args.nodes.now i 0 in
    let here = ap (circuit_of_kind c.args.circuits.now) c.kind-kind.ensures.kind in
    let circuit = circuit_in c.args.circuits.now in
    let was = c.loop-node.invariant in
    omega (arith, side_counted_room c.args.shared.now.version circuit (side_from c.args.next) place i v c.args.nodes.now c.loop-node-test.true refl was.counting, ap gate_variables here, c.requires.room)

pub loop-node-preserved : goal.loop-node-preserved
loop-node-preserved c =
    let place = place_of c.loop-node.free c.loop-node.shared in
    let i = c.loop-node.node-index in
    let v = get_or c.args.nodes.now i 0 in
    let here = ap (circuit_of_kind c.args.circuits.now) c.kind-kind.ensures.kind in
    let circuit = circuit_in c.args.circuits.now in
    let was = c.loop-node.invariant in
    record {
      counting = side_counted_more c.args.shared.now.version circuit (side_from c.args.next) place i v c.args.nodes.now c.loop-node-test.true refl was.counting (place_of c.in_ok-free.free c.count_node.new.shared) (circuit_of_kind c.args.circuits.now c.kind-kind.result) here (rw was.version at c.in_ok-free.ensures.after);
      version = c.in_ok-free.ensures.version ∙ was.version;
      same_kinds = c.in_ok-free.ensures.same_kinds ∙ was.same_kinds;
      known = c.in_ok-free.ensures.known;
    }

pub returns : goal.returns
returns c =
    ap (λ (at : Place). at.next) (side_counted_all c.args.shared.now.version (circuit_in c.args.circuits.now) (side_from c.args.next) (place_of c.loop-node.free c.loop-node.shared) c.loop-node.node-index c.args.nodes.now c.loop-node-test.false c.loop-node.invariant.counting)
