use Rattle.std.proofs.Common.{◌≡◌, ◌++◌, ◌∷◌, map, drop}
use Rattle.lrat_model.specs.Literal.{Plus, Minus}
use Rattle.clause_encoder.proofs.gates.some_clause.Given as goal

abbrev pub invariant-loop-x : goal.invariant-loop-x
invariant-loop-x l = l.clause.items ++ map Plus (drop l.x-index l.inputs) ≡ Minus l.fn.z ∷ map Plus l.inputs
