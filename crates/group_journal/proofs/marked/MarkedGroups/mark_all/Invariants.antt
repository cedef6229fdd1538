use Rattle.std.proofs.Common.{◌≡◌, ◌++◌, true, length}
use Rattle.fbas_model.specs.Nodes.{members, listed_from}
use Rattle.fbas_model.proofs.Chosen.{AreChosen}
use Rattle.group_journal.proofs.marked.MarkedGroups.mark_all.Given as goal

abbrev pub invariant-loop-at : goal.invariant-loop-at
invariant-loop-at l = record {
  whole : l.yielded ++ l.at-iterator ≡ listed_from 0 l.set;
  n : l.self.n ≡ l.fn.self.n;
  groups : l.self.groups ≡ l.fn.self.groups;
  places : length l.self.marks ≡ length l.fn.self.marks;
  chosen : AreChosen (λ v. true) l.yielded (members l.self.marks);
}
