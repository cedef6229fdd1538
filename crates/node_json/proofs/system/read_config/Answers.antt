use Rattle.std.proofs.Common.{◌≡◌, Err, inl, inr, rules}
use Rattle.node_json.specs.Tree.{view}
use Rattle.node_json.proofs.NodeReading.{nodes_of-no_tree, nodes_of-tree}
use Rattle.node_json.proofs.Limits.{system_of-fault, system_of-tree}
use Rattle.node_json.proofs.system.read_config.Goals as goal

pub returns-in_err-tree-clause-err : goal.returns-in_err-tree-clause-err
returns-in_err-tree-clause-err c =
    let r : c.from_residual.result ≡ Err c.in_err-tree.field-0.0 = search rules in
    rw r (elim c.in_err-tree.ensures.err [
      | inl m ↦ inl m
      | inr f ↦ inr (rw f.0 (system_of-fault _ _ (nodes_of-no_tree _ f.1)))
    ])

pub returns-clause-ok : goal.returns-clause-ok
returns-clause-ok c =
    let all = system_of-tree c.args.bytes.now (view c.in_ok-tree.tree) (nodes_of-tree _ _ c.in_ok-tree.ensures.ok) in
    rw all c.system_in_tree.ensures.ok

pub returns-clause-err : goal.returns-clause-err
returns-clause-err c =
    let all = system_of-tree c.args.bytes.now (view c.in_ok-tree.tree) (nodes_of-tree _ _ c.in_ok-tree.ensures.ok) in
    rw all c.system_in_tree.ensures.err

pub returns-clause-means : goal.returns-clause-means
returns-clause-means c =
    let read = nodes_of-tree c.args.bytes.now (view c.in_ok-tree.tree) c.in_ok-tree.ensures.ok in
    rw read c.system_in_tree.ensures.means
