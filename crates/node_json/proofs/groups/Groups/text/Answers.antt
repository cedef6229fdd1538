use Rattle.std.proofs.Common.{◌∙◌, Some, sym, ap}
use Rattle.node_json.proofs.GroupLoops.{text_at}
use Rattle.node_json.proofs.groups.Groups.text.Goals as goal

pub returns : goal.returns
returns c = text_at c.self.inside.list.items c.args.self.now c.args.at c.index.result.now c.self.view_is c.requires c.index.ensures ∙ ap Some (sym c.deref.ensures.value)
