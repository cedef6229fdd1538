use Rattle.std.proofs.Common.{◌≡◌, ◌++◌, true, length}
use Rattle.fbas_model.specs.Nodes.{members, listed_from}
use Rattle.fbas_model.proofs.Chosen.{AreChosen}
use Rattle.name_set.proofs.words.resized.Given as goal

abbrev pub invariant-loop-at : goal.invariant-loop-at
invariant-loop-at w l = record {
  whole : l.yielded ++ l.at-iterator ≡ listed_from 0 l.set;
  places : length l.copy ≡ length l.set;
  chosen : AreChosen (λ v. true) l.yielded (members l.copy);
}
