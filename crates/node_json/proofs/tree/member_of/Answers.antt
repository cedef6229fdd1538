use Rattle.node_json.proofs.Trees.{found-under}
use Rattle.node_json.proofs.tree.member_of.Goals as goal

pub returns : goal.returns
returns c = found-under c.args.name.now c.args.tree.now c.get.result c.get.ensures
