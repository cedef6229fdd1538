use Rattle.std.proofs.Common.{◌<◌, length, map, take, sym, ap, ◌∙◌, arith}
use Rattle.node_json.specs.Groups.{org_group}
use Rattle.node_json.proofs.GroupLoops.{made_more, names_more}
use Rattle.node_json.proofs.groups.org_groups.Goals as goal

pub loop-at-preserved : goal.loop-at-preserved
loop-at-preserved c =
    let make = org_group c.args.names.now c.args.kept.now c.args.orgs.now in
    let ids = c.args.ids.now in
    let i = c.loop-at.at in
    let id = c.name.result.now in
    let low : i < length ids = omega (arith, c.loop-at-test.true, c.len-at-end.ensures) in
    made_more make (take i ids) c.loop-at.groups.items c.push.new.self.items c.in_ok-org_group.field-0 id c.in_ok-push.ensures.items c.in_ok-org_group.ensures c.loop-at.invariant
    ∙ ap (map make) (sym (names_more ids i id low c.name.ensures))
