use Rattle.std.proofs.Common.{◌≡◌, ◌-◌, ◌+◌, ◌≤◌, length}
use Rattle.search_heuristics.proofs.queue.Links.new.Given as goal

abbrev pub invariant-loop-x : goal.invariant-loop-x
invariant-loop-x l = (l.x ≤ l.vars) × (length l.before.items ≡ l.vars + 1) × (length l.after.items ≡ l.vars + 1) × (length l.stamps.items ≡ l.vars + 1)

abbrev pub decreases-loop-x : goal.decreases-loop-x
decreases-loop-x l = l.vars - l.x
