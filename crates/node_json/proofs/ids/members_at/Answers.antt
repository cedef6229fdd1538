use Rattle.std.proofs.Common.{sym, ◌∙◌, rules}
use Rattle.node_json.proofs.IdReading.{item-fault, item-known}
use Rattle.node_json.proofs.ids.members_at.Goals as goal

pub returns-clause-fault : goal.returns-clause-fault
returns-clause-fault c =
    rw c.ok_or.ensures.value (item-fault c.args.orgs.now c.args.place c.args.id.now (sym c.is_empty.ensures ∙ c.if-is_empty.false) (sym c.is_key.ensures ∙ search rules) c.members.result c.members.ensures.value)

pub returns-clause-known : goal.returns-clause-known
returns-clause-known c =
    rw c.ok_or.ensures.value (item-known c.args.orgs.now c.args.place c.args.id.now (sym c.is_empty.ensures ∙ c.if-is_empty.false) (sym c.is_key.ensures ∙ search rules) c.members.result c.members.ensures.value)
