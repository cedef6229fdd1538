use Rattle.std.proofs.Common.{None, Some, inr, rules}
use Rattle.node_json.specs.Tree.{view, items_view}
use Rattle.node_json.proofs.NodeReading.{nodes_in-top}
use Rattle.node_json.proofs.nodes.read_nodes.Goals as goal

pub returns-in_default-clause-err : goal.returns-in_default-clause-err
returns-in_default-clause-err c = inr (nodes_in-top _ None (search rules))

pub returns-clause-ok : goal.returns-clause-ok
returns-clause-ok c =
    let top = nodes_in-top (view c.args.tree.now) (Some (items_view c.in-Some.items.now.items)) (search rules) in
    rw (top, ← c.deref.ensures.value) c.read_items.ensures.ok

pub returns-clause-err : goal.returns-clause-err
returns-clause-err c =
    let top = nodes_in-top (view c.args.tree.now) (Some (items_view c.in-Some.items.now.items)) (search rules) in
    rw (top, ← c.deref.ensures.value) c.read_items.ensures.err
