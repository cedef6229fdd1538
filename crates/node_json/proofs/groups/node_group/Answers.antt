use Rattle.std.proofs.Common.{◌∙◌, length}
use Rattle.node_json.proofs.GroupLoops.{only_node, node_made}
use Rattle.node_json.proofs.groups.node_group.Goals as goal

pub returns : goal.returns
returns c =
    let kept = c.args.kept.now in
    node_made kept c.args.v c.in_ok-text.text.items c.name.result.now c.put.new.self c.in_ok-text.ensures c.name.ensures
    (only_node (length kept) c.args.v c.new-members.result c.put.new.self (c.new-members.ensures.size ∙ c.len.ensures) c.new-members.ensures.empty c.put.ensures.size c.put.ensures.added)
