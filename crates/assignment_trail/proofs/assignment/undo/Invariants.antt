use Rattle.std.proofs.Common.{◌≡◌, ◌≤◌, ℕ, length, take}
use Rattle.assignment_trail.specs.Values.{IsAssignment}
use Rattle.assignment_trail.proofs.assignment.undo.Given as goal

abbrev pub invariant-loop-left : goal.invariant-loop-left
invariant-loop-left l = record {
  above : l.len ≤ l.left;
  within : l.left ≤ length l.trail;
  long : length l.values.items ≡ length l.initial.values.items;
  sound : (room : ℕ) → IsAssignment l.initial.values.items l.trail room → IsAssignment l.values.items (take l.left l.trail) room;
}

abbrev pub decreases-loop-left : goal.decreases-loop-left
decreases-loop-left l = l.left
