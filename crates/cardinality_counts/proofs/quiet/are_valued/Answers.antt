use Rattle.std.proofs.Common.{◌≡◌, true}
use Rattle.std.specs.Prelude.{◌⊎◌}
use Rattle.lrat_model.specs.Literal.{Plus, Minus, has}
use Rattle.cardinality_counts.proofs.OpenLaws.{of_each}
use Rattle.cardinality_counts.proofs.quiet.are_valued.Goals as goal

pub returns : goal.returns
returns c = λ _. of_each (λ x. (has c.args.assignment.now.trues (Plus x) ≡ true) ⊎ (has c.args.assignment.now.trues (Minus x) ≡ true)) c.args.variables.now c.loop-x.x-index c.loop-x.invariant c.loop-x-test.false
