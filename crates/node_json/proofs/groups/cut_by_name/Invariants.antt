use Rattle.std.proofs.Common.{◌≡◌, ◌++◌, [], length, map, slice_index_or}
use Rattle.fbas_model.specs.Names.{marks}
use Rattle.fbas_model.specs.Nodes.{listed_from}
use Rattle.node_json.proofs.groups.cut_by_name.Given as goal

abbrev pub invariant-loop-v : goal.invariant-loop-v
invariant-loop-v l = record {
  whole : l.yielded ++ l.v-iterator ≡ listed_from 0 l.marked;
  size : length l.nodes ≡ length l.kept;
  found : l.nodes ≡ marks l.kept (map (λ v. slice_index_or l.names v []) l.yielded);
}
