use Rattle.std.proofs.Common.{ℕ, ◌+◌, length, ap, ◌∙◌, arith}
use Rattle.clause_encoder.specs.Formula.{side_clauses, side_from}
use Rattle.clause_encoder.specs.Written.{circuit_in}
use Rattle.clause_encoder.proofs.PlaceLaws.{side_grows}
use Rattle.clause_encoder.proofs.CountLaws.{side_fits, side_next}
use Rattle.clause_encoder.proofs.count.count_vars.Goals as goal

pub count_side-requires-clause-room : goal.count_side-requires-clause-room
count_side-requires-clause-room c = omega (arith, side_fits (length c.args.circuits.now.kinds) c.args.circuits.now c.args.nodes.now c.requires.writable c.requires.few, c.requires.few)

pub count_side-requires-2-clause-room : goal.count_side-requires-2-clause-room
count_side-requires-2-clause-room c =
    let circuit = circuit_in c.args.circuits.now in
    let ns = c.args.nodes.now in
    let start = 1 + length ns + length ns in
    omega (arith, side_fits (length c.args.circuits.now.kinds) c.args.circuits.now ns c.requires.writable c.requires.few, c.requires.few, c.in_ok-middle.ensures, side_next c.args.version (λ v. v) circuit (side_from start) ns)

pub overflow_sub-result : goal.overflow_sub-result
overflow_sub-result c =
    let circuit = circuit_in c.args.circuits.now in
    let ns = c.args.nodes.now in
    let start = 1 + length ns + length ns in
    omega (arith, c.in_ok-middle.ensures, c.in_ok-next.ensures, side_grows c.args.version (λ v. v) circuit (side_from start) ns, side_grows c.args.version (λ v. v) circuit (side_from c.in_ok-middle.middle) ns)

pub returns-clause-vars : goal.returns-clause-vars
returns-clause-vars c =
    let circuit = circuit_in c.args.circuits.now in
    let ns = c.args.nodes.now in
    let start = 1 + length ns + length ns in
    let whole = c.in_ok-next.ensures ∙ ap (λ (first : ℕ). (side_clauses c.args.version (λ v. v) circuit (side_from first) ns).after.next) c.in_ok-middle.ensures in
    omega (arith, whole, c.in_ok-middle.ensures, c.in_ok-next.ensures, side_grows c.args.version (λ v. v) circuit (side_from start) ns, side_grows c.args.version (λ v. v) circuit (side_from c.in_ok-middle.middle) ns)

pub returns-clause-members : goal.returns-clause-members
returns-clause-members c =
    let circuit = circuit_in c.args.circuits.now in
    let ns = c.args.nodes.now in
    let start = 1 + length ns + length ns in
    omega (arith, c.in_ok-middle.ensures, c.in_ok-next.ensures, side_grows c.args.version (λ v. v) circuit (side_from start) ns, side_grows c.args.version (λ v. v) circuit (side_from c.in_ok-middle.middle) ns)
