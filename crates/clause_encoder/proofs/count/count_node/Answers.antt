use Rattle.std.proofs.Common.{ℕ, List, Option, ap, subst, sym, arith}
use Rattle.std.specs.Prelude.{IfSome}
use Rattle.threshold_circuit.specs.Circuits.{Circuit}
use Rattle.threshold_circuit.specs.Views.{circuit_view}
use Rattle.clause_encoder.specs.CircuitClauses.{Place}
use Rattle.clause_encoder.specs.Known.{HasGate, AreKnown}
use Rattle.clause_encoder.specs.SharedGates.{place_of, gates_in}
use Rattle.clause_encoder.proofs.KindLaws.{known_kept, known_more}
use Rattle.clause_encoder.proofs.count.count_node.Goals as goal

pub returns-clause-known : goal.returns-clause-known
returns-clause-known c =
    let gates = gates_in c.count_circuit.new.shared in
    let circuits = c.args.circuits.now in
    let known = c.args.known.now in
    let place = place_of c.args.next c.args.shared.now in
    let kept = known_kept c.args.shared.now.version (λ v. v) place (circuit_view c.of_kind-circuit.result.now) gates circuits known (ap (λ (at : Place). at.gates) c.in_ok-free.ensures.after) c.requires.known in
    let found = subst (λ (d : Circuit). IfSome c.gate-2.result (HasGate gates d)) c.of_kind-circuit.ensures c.gate-2.ensures in
    subst (λ (ks : List (Option ℕ)). AreKnown gates circuits ks) (sym c.note.ensures) (known_more gates circuits known c.args.kind c.gate-2.result (omega (arith, c.requires.kind, c.requires.same_kinds)) found kept)
