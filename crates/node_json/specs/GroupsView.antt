-- The groups that the program's values stand for.
use Rattle.std.specs.Prelude.{List, map}
use Rattle.node_json.specs.Groups as spec
use Rattle.node_json.specs.declared.groups.Group.{Group}

abbrev pub group_view : Group → spec.Group
group_view group = record { text = group.text.items; members = group.members }

abbrev pub groups_view : List Group → List spec.Group
groups_view groups = map group_view groups
