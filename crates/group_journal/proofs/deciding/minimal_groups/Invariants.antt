use Rattle.std.proofs.Common.{◌≡◌, length}
use Rattle.fbas_model.specs.Nodes.{members}
use Rattle.group_journal.proofs.Thinning.{Thinned}
use Rattle.group_journal.proofs.deciding.minimal_groups.Given as goal

abbrev pub invariant-loop-at : goal.invariant-loop-at
invariant-loop-at l = record {
  n : l.marked.n ≡ l.fn.marked.n;
  groups : l.marked.groups ≡ l.fn.marked.groups;
  thinned : Thinned l.system.sets (members l.faulty) l.fn.marked.groups l.fn.marked.marks l.marked.marks l.at;
  same_scratch : length l.scratch ≡ length l.fn.scratch;
}
