use Rattle.std.proofs.Common.{◌≡◌, ℕ, length}
use Rattle.std.specs.Prelude.{All, IfSome}
use Rattle.fbas_model.specs.QuorumSets.{IsBelow}
use Rattle.fbas_model.specs.Fbas.{Fbas}
use Rattle.fbas_tests.proofs.plain.system.Given as goal

-- a quorum set or none for each node so far, of nodes below n
pub record Built (n count : ℕ) (sets : Fbas) : Type 0 where
  pub places : length sets ≡ count
  pub below : All (λ o. IfSome o (IsBelow n)) sets

abbrev pub invariant-loop-choices : goal.invariant-loop-choices
invariant-loop-choices g l = Built (length l.nodes) l.choices-index l.sets.items
