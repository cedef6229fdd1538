use Rattle.std.proofs.Common.{◌≡◌, ◌≤◌, ◌<◌, ◌-◌, ℕ, length}
use Rattle.lrat_model.specs.Literal.{has, Plus}
use Rattle.cdcl_core.specs.Values.{value_of}
use Rattle.cdcl_core.proofs.run.tell.Given as goal

abbrev pub invariant-loop-done : goal.invariant-loop-done
invariant-loop-done l = (length l.values.items ≡ length l.initial.values.items) × (l.done ≤ length l.values.items) × ((x : ℕ) → 0 < x → x ≤ l.done → value_of l.values.items x ≡ has l.assignment.trues (Plus x))

abbrev pub decreases-loop-done : goal.decreases-loop-done
decreases-loop-done l = length l.values.items - l.done
