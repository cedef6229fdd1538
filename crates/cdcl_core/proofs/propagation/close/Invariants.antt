use Rattle.std.proofs.Common.{◌≡◌, ◌≤◌, ◌++◌, take, drop, length, ◌-◌}
use Rattle.cdcl_core.proofs.propagation.close.Given as goal

abbrev pub invariant-loop-i : goal.invariant-loop-i
invariant-loop-i l = record {
  below : l.kept ≤ l.i;
  within : l.i ≤ length l.list.items;
  items : take l.kept l.list.items ++ drop l.i l.list.items ≡ take l.to l.initial.list.items ++ drop l.from l.initial.list.items;
}

abbrev pub decreases-loop-i : goal.decreases-loop-i
decreases-loop-i l = length l.list.items - l.i
