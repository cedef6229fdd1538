use Rattle.std.proofs.Common.{◌≡◌, subst}
use Rattle.std.specs.Prelude.{IfOk}
use Rattle.clause_encoder.specs.Formula.{side_clauses, side_from}
use Rattle.clause_encoder.specs.SharedGates.{gates_in}
use Rattle.clause_encoder.specs.Written.{circuit_in}
use Rattle.clause_encoder.specs.declared.version.Version.{Version}
use Rattle.clause_encoder.proofs.count.count_side.Goals as goal

pub count_nodes-requires-clause-known : goal.count_nodes-requires-clause-known
count_nodes-requires-clause-known c = c.in_ok-known.ensures.none (gates_in c.new-shared.result) c.args.circuits.now

pub returns : goal.returns
returns c = subst (λ (version : Version). IfOk c.count_nodes.result (λ n. n ≡ (side_clauses version (λ v. v) (circuit_in c.args.circuits.now) (side_from c.args.next) c.args.nodes.now).after.next)) c.new-shared.ensures.version c.count_nodes.ensures
