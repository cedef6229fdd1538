use Rattle.std.proofs.Common.{◌≡◌, List, [], false, take, drop}
use Rattle.lrat_model.specs.Literal.{Literal}
use Rattle.lrat_model.specs.Steps.{deletion_fault}
use Rattle.clause_store.specs.Entries.{IsRising, AreForward, marked}
use Rattle.clause_store.specs.Shown.{held_in}
use Rattle.clause_store.proofs.EntryLaws.{AreHeld}
use Rattle.clause_store.proofs.index.mark_removed.Given as goal

abbrev pub invariant-loop-i : goal.invariant-loop-i
invariant-loop-i l = record {
  rising : IsRising l.entries;
  forward : AreForward l.entries;
  so_far : l.entries ≡ marked l.initial.entries (take l.i l.ids) false;
  held : AreHeld l.initial.entries (take l.i l.ids);
  faults : (arena : List Literal) → deletion_fault (held_in arena l.initial.entries) (take l.i l.ids) (drop l.i l.ids) ≡ deletion_fault (held_in arena l.initial.entries) [] l.ids;
}
