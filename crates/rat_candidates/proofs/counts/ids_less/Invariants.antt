use Rattle.std.proofs.Common.{ℕ, ◌-◌, take}
use Rattle.lrat_model.specs.Literal.{Literal}
use Rattle.rat_candidates.specs.Counted.{IsOver, listed}
use Rattle.rat_candidates.proofs.counts.ids_less.Given as goal

abbrev pub invariant-loop-id : goal.invariant-loop-id
invariant-loop-id s = (k : Literal) (n : ℕ) → IsOver s.initial.counts.items k n → IsOver s.counts.items k (n - listed k s.store.held (take s.id-index s.ids))
