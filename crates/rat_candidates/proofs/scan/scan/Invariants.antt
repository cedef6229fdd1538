use Rattle.std.proofs.Common.{◌≡◌, ℕ, ◌≤◌, ◌-◌, List, Some, false}
use Rattle.lrat_model.specs.Literal.{Literal}
use Rattle.lrat_model.specs.Clauses.{clause_at}
use Rattle.rat_candidates.specs.Groups.{ids_in}
use Rattle.rat_candidates.proofs.MissingLaws.{misses}
use Rattle.rat_candidates.proofs.scan.scan.Given as goal

abbrev pub invariant-loop-above : goal.invariant-loop-above
invariant-loop-above l = (k : ℕ) (clause : List Literal) → k ≤ l.above → clause_at l.store.held k ≡ Some clause → misses l.l (ids_in l.hints) k clause ≡ false

abbrev pub decreases-loop-above : goal.decreases-loop-above
decreases-loop-above l = l.last - l.above
