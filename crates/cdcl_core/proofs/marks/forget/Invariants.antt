use Rattle.std.proofs.Common.{◌≡◌, ◌<◌, ◌≤◌, ◌-◌, ℕ, length, get_or}
use Rattle.cdcl_core.proofs.marks.forget.Given as goal

abbrev pub invariant-loop-done : goal.invariant-loop-done
invariant-loop-done l = (length l.rounds.items ≡ length l.initial.rounds.items) × (l.done ≤ length l.rounds.items) × ((k : ℕ) → k < l.done → get_or l.rounds.items k 0 ≡ 0)

abbrev pub decreases-loop-done : goal.decreases-loop-done
decreases-loop-done l = length l.rounds.items - l.done
