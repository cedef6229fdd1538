use Rattle.std.proofs.Common.{take}
use Rattle.node_json.specs.GroupsView.{groups_view}
use Rattle.node_json.proofs.GroupLoops.{AreLoose}
use Rattle.node_json.proofs.groups.loose.Given as goal

abbrev pub invariant-loop-group : goal.invariant-loop-group
invariant-loop-group l = AreLoose l.n (groups_view (take l.group-index l.groups)) l.nodes
