use Rattle.std.proofs.Common.{◌≡◌, List, drop}
use Rattle.lrat_model.specs.Literal.{Literal}
use Rattle.lrat_model.specs.Alike.{Alike}
use Rattle.lrat_model.specs.Rat.{made_false}
use Rattle.lrat_checker.specs.Extends.{Extends}
use Rattle.lrat_checker.proofs.rat.make_false.Given as goal

abbrev pub invariant-loop-l : goal.invariant-loop-l
invariant-loop-l l = record {
  vars : l.assignment.vars ≡ l.initial.assignment.vars;
  grows : Extends l.initial.assignment.trues l.assignment.trues;
  so_far : (trues : List Literal) → Alike trues l.initial.assignment.trues
      → (now : List Literal) × Alike now l.assignment.trues × (made_false l.left_out now (drop l.l-index l.clause) ≡ made_false l.left_out trues l.clause);
}
