use Rattle.std.proofs.Common.{◌≡◌, ◌⊎◌, true, take}
use Rattle.lrat_model.specs.Literal.{Literal, has, negated}
use Rattle.cdcl_core.proofs.visit.find_free.Given as goal

abbrev pub invariant-loop-i : goal.invariant-loop-i
invariant-loop-i g l = l.initial.from ≡ 0 → (m : Literal) → has (take l.i (g.V.ClauseView.literals l.clause)) m ≡ true → (m ≡ l.other) ⊎ (has l.assignment.trues (negated m) ≡ true)
