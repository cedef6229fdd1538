use Rattle.std.proofs.Common.{◌-◌, ◌≡◌, ◌≤◌, ℕ, length, [], get_or}
use Rattle.std.specs.Prelude.{map}
use Rattle.std.specs.Global.{Vec}
use Rattle.cdcl_core.specs.declared.watches.Watch.{Watch}
use Rattle.cdcl_core.proofs.watches.WatchLists.new.Given as goal

abbrev pub invariant-loop-done : goal.invariant-loop-done
invariant-loop-done l = record {
  within : l.done ≤ l.count;
  long : length l.lists.items ≡ l.done;
  empty : (i : ℕ) → get_or (map (λ (v : Vec Watch). v.items) l.lists.items) i [] ≡ [];
}

abbrev pub decreases-loop-done : goal.decreases-loop-done
decreases-loop-done l = l.count - l.done
