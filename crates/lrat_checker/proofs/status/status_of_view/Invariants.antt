use Rattle.std.proofs.Common.{◌≡◌, drop}
use Rattle.lrat_model.specs.Propagation.{not_false, status}
use Rattle.lrat_model.proofs.StatusFrom.{status_from}
use Rattle.lrat_checker.proofs.status.status_of_view.Given as goal

abbrev pub invariant-loop-i : goal.invariant-loop-i
invariant-loop-i g l = status_from l.first (not_false l.assignment.trues (drop l.i (g.V.ClauseView.literals l.clause))) ≡ status l.assignment.trues (g.V.ClauseView.literals l.clause)
