use Rattle.std.proofs.Common.{◌≡◌, Err, inl, inr, rules}
use Rattle.node_json.specs.Tree.{view}
use Rattle.node_json.proofs.OrgReading.{orgs_of-no_tree, orgs_of-tree}
use Rattle.node_json.proofs.organisations.read_orgs.Goals as goal

pub returns-in_err-tree-clause-err : goal.returns-in_err-tree-clause-err
returns-in_err-tree-clause-err c =
    let r : c.from_residual.result ≡ Err c.in_err-tree.field-0.0 = search rules in
    rw r (elim c.in_err-tree.ensures.err [
      | inl m ↦ inl m
      | inr f ↦ inr (rw f.0 (orgs_of-no_tree c.args.system.now.names c.args.bytes.now f.1))
    ])

pub returns-clause-ok : goal.returns-clause-ok
returns-clause-ok c =
    let all = orgs_of-tree c.args.system.now.names c.args.bytes.now (view c.in_ok-tree.tree) c.in_ok-tree.ensures.ok in
    rw (all, ← c.names.ensures.names) c.orgs_in_tree.ensures.ok

pub returns-clause-err : goal.returns-clause-err
returns-clause-err c =
    let all = orgs_of-tree c.args.system.now.names c.args.bytes.now (view c.in_ok-tree.tree) c.in_ok-tree.ensures.ok in
    rw (all, ← c.names.ensures.names) c.orgs_in_tree.ensures.err

pub returns-clause-sized : goal.returns-clause-sized
returns-clause-sized c = rw (← c.names.ensures.names) c.orgs_in_tree.ensures.sized
