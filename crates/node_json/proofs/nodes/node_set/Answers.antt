use Rattle.std.proofs.Common.{◌≡◌, rules, inl, inr, Ok, Err, Some, codes}
use Rattle.serde_json.specs.Find.{get}
use Rattle.node_json.specs.Reading.{or_missing}
use Rattle.node_json.specs.Tree.{view}
use Rattle.node_json.proofs.NodeReading.{node_set-read}
use Rattle.node_json.proofs.nodes.node_set.Goals as goal

pub returns-in_err-read_set-in-Some-clause-err : goal.returns-in_err-read_set-in-Some-clause-err
returns-in_err-read_set-in-Some-clause-err c =
    let here : or_missing (get (codes "quorumSet") (view c.args.value.now)) ≡ Some (view c.in-Some.set.now) = search rules in
    let r : c.from_residual.result ≡ Err c.in_err-read_set-in-Some.field-0.0 = search rules in
    rw r (elim c.in_err-read_set-in-Some.ensures.err [
      | inl m ↦ inl m
      | inr f ↦ inr (node_set-read c.args.at (view c.args.value.now) (view c.in-Some.set.now) _ here f)
    ])

pub returns-in_ok-read_set-in-Some-clause-ok : goal.returns-in_ok-read_set-in-Some-clause-ok
returns-in_ok-read_set-in-Some-clause-ok c =
    let here : or_missing (get (codes "quorumSet") (view c.args.value.now)) ≡ Some (view c.in-Some.set.now) = search rules in
    node_set-read c.args.at (view c.args.value.now) (view c.in-Some.set.now) (Ok _) here c.in_ok-read_set-in-Some.ensures.ok
