use Rattle.std.proofs.Common.{◌≡◌, ◌≤◌, ◌-◌}
use Rattle.search_heuristics.specs.Open.{open_count}
use Rattle.search_heuristics.proofs.order.first_open.Given as goal

abbrev pub invariant-loop-done : goal.invariant-loop-done
invariant-loop-done l = (l.done ≤ l.vars) × (open_count l.assignment.trues l.done ≡ 0)

abbrev pub decreases-loop-done : goal.decreases-loop-done
decreases-loop-done l = l.vars - l.done
