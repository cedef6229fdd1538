use Rattle.std.proofs.Common.{◌≡◌, ◌≤◌, ◌-◌, length}
use Rattle.lrat_checker.proofs.subsets.empty_lists.Given as goal

abbrev pub invariant-loop-made : goal.invariant-loop-made
invariant-loop-made l = record { long : length l.lists.items ≡ l.made; within : l.made ≤ l.slots }

abbrev pub decreases-loop-made : goal.decreases-loop-made
decreases-loop-made l = l.slots - l.made
