use Rattle.std.proofs.Common.{ℕ, ◌-◌, take}
use Rattle.lrat_model.specs.Literal.{Literal}
use Rattle.rat_candidates.specs.Occurrences.{times}
use Rattle.rat_candidates.specs.Counted.{IsOver}
use Rattle.rat_candidates.proofs.counts.count_less.Given as goal

abbrev pub invariant-loop-l : goal.invariant-loop-l
invariant-loop-l l = (k : Literal) (n : ℕ) → IsOver l.initial.counts.items k n → IsOver l.counts.items k (n - times k (take l.l-index l.clause))
