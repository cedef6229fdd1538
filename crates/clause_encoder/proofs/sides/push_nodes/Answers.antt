use Rattle.std.proofs.Common.{◌<◌, length, get_or, refl, ap, subst, sym, ◌∙◌}
use Rattle.threshold_circuit.specs.Circuits.{Circuit, HasThresholds}
use Rattle.clause_encoder.specs.CircuitClauses.{Place}
use Rattle.clause_encoder.specs.Formula.{node_clauses, side_from}
use Rattle.clause_encoder.specs.SharedGates.{place_of}
use Rattle.clause_encoder.specs.Written.{variable_in, circuit_in, circuit_of_kind}
use Rattle.clause_encoder.proofs.CountLaws.{writable_at}
use Rattle.clause_encoder.proofs.SideWriting.{side_none, node_room, side_more, side_all}
use Rattle.clause_encoder.proofs.sides.push_nodes.Goals as goal

pub loop-node-init : goal.loop-node-init
loop-node-init c =
    let none = c.requires.no_gates in
    record {
      writing = rw none (side_none c.args.gates.now.shared.version (variable_in c.args.variables.now) (circuit_in c.args.circuits.now) (side_from c.args.next) c.args.nodes.now c.args.writer.now.clauses c.requires.some tt);
      version = refl;
      marks = refl;
      same_kinds = c.requires.same_kinds;
      known = c.requires.known;
    }

pub push_node_of_kind-requires-clause-room : goal.push_node_of_kind-requires-clause-room
push_node_of_kind-requires-clause-room c =
    let p = variable_in c.args.variables.now in
    let place = place_of c.loop-node.free c.loop-node.gates.shared in
    let i = c.loop-node.node-index in
    let v = get_or c.args.nodes.now c.loop-node.node-index 0 in
    let here = ap (circuit_of_kind c.args.circuits.now) c.kind-kind.ensures.kind in
    let room = node_room c.args.gates.now.shared.version p (circuit_in c.args.circuits.now) (side_from c.args.next) place i v c.args.nodes.now c.args.writer.now.clauses c.loop-node.writer.clauses c.loop-node-test.true refl c.loop-node.invariant.writing c.args.writer.now.marks c.requires.room in
    rw (c.loop-node.invariant.marks, c.loop-node.invariant.version) (subst (λ (d : Circuit). (node_clauses c.args.gates.now.shared.version p place v d).after.next < c.args.writer.now.marks) (sym here) room)

pub loop-node-preserved : goal.loop-node-preserved
loop-node-preserved c =
    let p = variable_in c.args.variables.now in
    let place = place_of c.loop-node.free c.loop-node.gates.shared in
    let i = c.loop-node.node-index in
    let v = get_or c.args.nodes.now c.loop-node.node-index 0 in
    let d = circuit_of_kind c.args.circuits.now c.kind-kind.result in
    let here = ap (circuit_of_kind c.args.circuits.now) c.kind-kind.ensures.kind in
    let thresholds : HasThresholds d = (writable_at (length c.args.variables.now) c.args.circuits.now c.kind-kind.result c.requires.writable).thresholds in
    let is = c.loop-node.invariant.version in
    record {
      writing = side_more c.args.gates.now.shared.version p (circuit_in c.args.circuits.now) (side_from c.args.next) place i v c.args.nodes.now c.args.writer.now.clauses c.loop-node.writer.clauses c.loop-node-test.true refl c.loop-node.invariant.writing
          (place_of c.in_ok-free.free c.push_node_of_kind.new.gates.shared) c.push_node_of_kind.new.writer.clauses d here thresholds (rw is at c.in_ok-free.ensures.after) (rw is at c.in_ok-free.ensures.clauses);
      version = c.in_ok-free.ensures.version ∙ is;
      marks = c.in_ok-free.ensures.marks ∙ c.loop-node.invariant.marks;
      same_kinds = c.in_ok-free.ensures.same_kinds ∙ c.loop-node.invariant.same_kinds;
      known = c.in_ok-free.ensures.known;
    }

pub returns-clause-clauses : goal.returns-clause-clauses
returns-clause-clauses c =
    (side_all c.args.gates.now.shared.version (variable_in c.args.variables.now) (circuit_in c.args.circuits.now) (side_from c.args.next) (place_of c.loop-node.free c.loop-node.gates.shared) c.loop-node.node-index c.args.nodes.now c.args.writer.now.clauses c.loop-node.writer.clauses c.loop-node-test.false c.loop-node.invariant.writing).0

pub returns-clause-next : goal.returns-clause-next
returns-clause-next c =
    ap (λ (at : Place). at.next) (side_all c.args.gates.now.shared.version (variable_in c.args.variables.now) (circuit_in c.args.circuits.now) (side_from c.args.next) (place_of c.loop-node.free c.loop-node.gates.shared) c.loop-node.node-index c.args.nodes.now c.args.writer.now.clauses c.loop-node.writer.clauses c.loop-node-test.false c.loop-node.invariant.writing).1
