use Rattle.std.proofs.Common.{◌≡◌, ◌<◌, ◌+◌, ◌-◌, ◌*◌, length}
use Rattle.fbas_model.specs.Nodes.{members, ◌⊆◌}
use Rattle.fbas_model.specs.Fbas.{Quorum}
use Rattle.group_lists.proofs.search.lose_groups.Given as goal

abbrev pub invariant-loop-from : goal.invariant-loop-from
invariant-loop-from l = record {
  some : 0 < l.together;
  same_n : length l.q ≡ length l.fn.q;
  same_scratch : length l.scratch ≡ length l.fn.scratch;
  within : members l.q ⊆ members l.fn.q;
  quorum : Quorum l.system.sets (members l.faulty) (members l.q);
}

abbrev pub decreases-loop-from : goal.decreases-loop-from
decreases-loop-from l = 3 * (l.count - l.from) + l.together
