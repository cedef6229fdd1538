use Rattle.std.proofs.Common.{◌≡◌, ◌++◌, ◌==◌, length, slice_index_or}
use Rattle.fbas_model.specs.Nodes.{members, listed_from}
use Rattle.group_journal.proofs.MemberLoops.{AreLeft}
use Rattle.group_journal.proofs.counting.drop_uncounted.Given as goal

abbrev pub invariant-loop-v : goal.invariant-loop-v
invariant-loop-v l = record {
  whole : l.yielded ++ l.v-iterator ≡ listed_from 0 l.group;
  same_n : length l.nodes ≡ length l.fn.nodes;
  left : AreLeft (λ v. slice_index_or l.counts v 0 == 0) l.yielded (members l.fn.nodes) (members l.nodes);
}
