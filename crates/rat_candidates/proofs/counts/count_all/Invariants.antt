use Rattle.std.proofs.Common.{ℕ, ◌-◌, List}
use Rattle.lrat_model.specs.Literal.{Literal}
use Rattle.rat_candidates.specs.Occurrences.{occurrences_in}
use Rattle.rat_candidates.specs.Counted.{IsOver, AreUpTo}
use Rattle.rat_candidates.proofs.counts.count_all.Given as goal

abbrev pub invariant-loop-above : goal.invariant-loop-above
invariant-loop-above s = (ids : List ℕ) × AreUpTo s.store.held s.above ids × ((k : Literal) → IsOver s.counts.items k (occurrences_in k ids s.store.held))

abbrev pub decreases-loop-above : goal.decreases-loop-above
decreases-loop-above s = s.last - s.above
