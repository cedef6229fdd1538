use Rattle.std.proofs.Common.{◌≡◌, ℕ, ◌<◌, ◌≤◌, ◌-◌, List, Some}
use Rattle.lrat_model.specs.Literal.{Literal, IsSubset}
use Rattle.lrat_model.specs.Clauses.{clause_at}
use Rattle.lrat_checker.proofs.subsets.scan.Given as goal

abbrev pub invariant-loop-next : goal.invariant-loop-next
invariant-loop-next l = (k : ℕ) (clause : List Literal) → 0 < k → k ≤ l.above → clause_at l.store.held k ≡ Some clause → IsSubset clause l.lits → ⊥

abbrev pub decreases-loop-next : goal.decreases-loop-next
decreases-loop-next l = l.id - l.above
