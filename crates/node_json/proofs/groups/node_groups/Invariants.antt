use Rattle.std.proofs.Common.{◌≡◌, ◌++◌, map}
use Rattle.fbas_model.specs.Nodes.{listed_from}
use Rattle.node_json.specs.Groups.{node_group}
use Rattle.node_json.specs.GroupsView.{groups_view}
use Rattle.node_json.proofs.groups.node_groups.Given as goal

abbrev pub invariant-loop-v : goal.invariant-loop-v
invariant-loop-v l = record {
  whole : l.yielded ++ l.v-iterator ≡ listed_from 0 l.nodes;
  made : groups_view l.groups.items ≡ map (node_group l.kept) l.yielded;
}
