use Rattle.std.proofs.Common.{◌≡◌, length}
use Rattle.fbas_model.specs.Nodes.{members, ◌⊆◌}
use Rattle.group_lists.proofs.search.lose_between.Given as goal

abbrev pub invariant-loop-at : goal.invariant-loop-at
invariant-loop-at l = record {
  size : length l.scratch ≡ length l.system.sets;
  within : members l.scratch ⊆ members l.q;
}
