use Rattle.std.proofs.Common.{◌≡◌, ◌≤◌, length, take, drop}
use Rattle.clause_store.specs.Packed.{packed, literals_of}
use Rattle.clause_store.proofs.PackedLaws.{room}
use Rattle.clause_store.proofs.compact.move_held.Given as goal

abbrev pub invariant-loop-i : goal.invariant-loop-i
invariant-loop-i l = record {
  behind : l.kept ≤ l.i;
  entry_count : length l.entries ≡ length l.initial.entries;
  literal_count : length l.arena ≡ length l.initial.arena;
  free : l.free ≡ room (take l.i l.initial.entries);
  entries_done : take l.kept l.entries ≡ packed 0 (take l.i l.initial.entries);
  entries_left : drop l.i l.entries ≡ drop l.i l.initial.entries;
  literals_done : take l.free l.arena ≡ literals_of l.initial.arena (take l.i l.initial.entries);
  literals_left : drop l.free l.arena ≡ drop l.free l.initial.arena;
}
