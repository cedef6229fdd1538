use Rattle.std.proofs.Common.{◌≡◌, ◌⊎◌, true, take}
use Rattle.lrat_model.specs.Literal.{Literal, has}
use Rattle.cdcl_core.proofs.growth.are_three.Given as goal

abbrev pub invariant-loop-m : goal.invariant-loop-m
invariant-loop-m l = (m : Literal) → has (take l.m-index l.lits) m ≡ true → (m ≡ l.first) ⊎ (m ≡ l.second) ⊎ (m ≡ l.third)
