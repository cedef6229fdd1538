use Rattle.std.proofs.Common.{◌≡◌, ℕ, ◌<◌, List, Some, false, take}
use Rattle.std.specs.List.{list_any}
use Rattle.lrat_model.specs.Literal.{Literal, IsSubset}
use Rattle.lrat_model.specs.Clauses.{clause_at}
use Rattle.lrat_checker.specs.Subsets.{is_watch_of}
use Rattle.lrat_checker.proofs.subsets.is_in_list.Given as goal

abbrev pub invariant-loop-watch : goal.invariant-loop-watch
invariant-loop-watch l = (k : ℕ) (clause : List Literal) → k < l.asked.id → clause_at l.asked.store.now.held k ≡ Some clause → IsSubset clause l.asked.lits.now → list_any (is_watch_of k clause) (take l.watch-index l.list) ≡ false
