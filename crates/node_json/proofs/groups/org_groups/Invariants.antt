use Rattle.std.proofs.Common.{◌≡◌, map, take}
use Rattle.node_json.specs.Groups.{org_group}
use Rattle.node_json.specs.GroupsView.{groups_view}
use Rattle.node_json.proofs.groups.org_groups.Given as goal

abbrev pub invariant-loop-at : goal.invariant-loop-at
invariant-loop-at l = groups_view l.groups.items ≡ map (org_group l.names l.kept l.orgs) (take l.at l.ids)
