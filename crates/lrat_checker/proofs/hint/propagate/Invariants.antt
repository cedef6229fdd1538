use Rattle.std.proofs.Common.{◌≡◌, ◌+◌, List, drop}
use Rattle.lrat_model.specs.Literal.{Literal}
use Rattle.lrat_model.specs.Propagation.{propagate}
use Rattle.lrat_model.specs.Alike.{Alike}
use Rattle.lrat_checker.specs.Extends.{Extends}
use Rattle.lrat_checker.proofs.hint.propagate.Given as goal

abbrev pub invariant-loop-i : goal.invariant-loop-i
invariant-loop-i l = record {
  vars : l.assignment.vars ≡ l.initial.assignment.vars;
  grows : Extends l.initial.assignment.trues l.assignment.trues;
  so_far : (trues : List Literal) → Alike trues l.initial.assignment.trues
      → (now : List Literal) × Alike now l.assignment.trues × (propagate l.store.held now (l.first + l.i) (drop l.i l.hints) ≡ propagate l.store.held trues l.first l.hints);
}
