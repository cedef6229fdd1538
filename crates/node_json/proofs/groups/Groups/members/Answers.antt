use Rattle.node_json.proofs.GroupLoops.{members_at}
use Rattle.node_json.proofs.groups.Groups.members.Goals as goal

pub returns : goal.returns
returns c = members_at c.self.inside.list.items c.args.self.now c.args.at c.index.result.now c.self.view_is c.requires c.index.ensures
