use Rattle.std.proofs.Common.{◌≡◌, ◌≤◌, ◌++◌, ℕ, true, List, [], take, drop, length, ◌-◌}
use Rattle.lrat_model.specs.Literal.{Literal}
use Rattle.cdcl_core.specs.Watches.{pair_at, IsPropagating, IsVisiting}
use Rattle.cdcl_core.proofs.propagation.visit_all.Given as goal

abbrev pub invariant-loop-i : goal.invariant-loop-i
invariant-loop-i l = record {
  below : l.kept ≤ l.i;
  within : l.i ≤ length l.list.items;
  vars : l.assignment.vars ≡ l.initial.assignment.vars;
  propagating : IsPropagating l.assignment.vars l.clauses l.lists l.assignment.trues l.reasons.items;
  longer : (more : List Literal) × (l.assignment.trues ≡ l.initial.assignment.trues ++ more);
  counted : (p : ℕ) → (pair_at l.pairs p).is_counted ≡ true → (pair_at l.initial.pairs p).is_counted ≡ true;
  visiting : (head : ℕ) → IsVisiting l.clauses l.initial.pairs l.initial.lists l.initial.assignment.trues l.initial.reasons.items head l.l [] l.initial.list.items → IsVisiting l.clauses l.pairs l.lists l.assignment.trues l.reasons.items head l.l (take l.kept l.list.items) (drop l.i l.list.items);
}

abbrev pub decreases-loop-i : goal.decreases-loop-i
decreases-loop-i l = length l.list.items - l.i
