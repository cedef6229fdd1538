use Rattle.std.proofs.Common.{◌≡◌, ℕ, ◌<◌, ◌≤◌, ◌-◌, List, Some}
use Rattle.lrat_model.specs.Literal.{Literal}
use Rattle.lrat_model.specs.Clauses.{clause_at}
use Rattle.lrat_checker.specs.Subsets.{IsFound}
use Rattle.lrat_checker.proofs.subsets.SubsetIndex.of.Given as goal

abbrev pub invariant-loop-id : goal.invariant-loop-id
invariant-loop-id l = (k : ℕ) (clause : List Literal) → 0 < k → k ≤ l.above → clause_at l.store.held k ≡ Some clause → IsFound l.index k clause

abbrev pub decreases-loop-id : goal.decreases-loop-id
decreases-loop-id l = l.last - l.above
