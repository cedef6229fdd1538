use Rattle.std.proofs.Common.{◌≡◌, true}
use Rattle.std.specs.Prelude.{◌⊎◌}
use Rattle.lrat_model.specs.Literal.{Plus, Minus, has}
use Rattle.cardinality_counts.proofs.OpenLaws.{AllBefore}
use Rattle.cardinality_counts.proofs.quiet.are_valued.Given as goal

abbrev pub invariant-loop-x : goal.invariant-loop-x
invariant-loop-x l = AllBefore (λ x. (has l.assignment.trues (Plus x) ≡ true) ⊎ (has l.assignment.trues (Minus x) ≡ true)) l.variables l.x-index
