use Rattle.std.proofs.Common.{◌≡◌, true, take}
use Rattle.clause_store.specs.Entries.{IsRising, AreForward, marked}
use Rattle.clause_store.proofs.index.mark_held.Given as goal

abbrev pub invariant-loop-id : goal.invariant-loop-id
invariant-loop-id l = record {
  rising : IsRising l.entries;
  forward : AreForward l.entries;
  so_far : l.entries ≡ marked l.initial.entries (take l.id-index l.ids) true;
}
