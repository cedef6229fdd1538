use Rattle.std.proofs.Common.{◌++◌, [], ◌∷◌, List, ℕ, ◌∙◌, ap₂}
use Rattle.node_json.proofs.Numbering.{numbers_more}
use Rattle.node_json.proofs.system.numbers.Goals as goal

pub loop-name-preserved : goal.loop-name-preserved
loop-name-preserved c = c.in_ok-push.ensures.items ∙ (ap₂ (λ (xs : List ℕ) (x : ℕ). xs ++ x ∷ []) c.loop-name.invariant c.number.ensures ∙ numbers_more c.args.names.now c.args.list.now c.loop-name.name-index _ c.loop-name-test.true)
