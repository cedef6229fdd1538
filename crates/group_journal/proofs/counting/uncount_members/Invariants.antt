use Rattle.std.proofs.Common.{◌≡◌, ◌++◌, length}
use Rattle.fbas_model.specs.Nodes.{listed_from}
use Rattle.group_journal.proofs.MemberLoops.{AreMore}
use Rattle.group_journal.proofs.counting.uncount_members.Given as goal

abbrev pub invariant-loop-v : goal.invariant-loop-v
invariant-loop-v l = record {
  whole : l.yielded ++ l.v-iterator ≡ listed_from 0 l.group;
  same_n : length l.counts.items ≡ length l.fn.counts.items;
  less : AreMore l.yielded l.counts.items l.fn.counts.items;
}
