use Rattle.std.proofs.Common.{◌≡◌, length}
use Rattle.search_heuristics.proofs.order.raise_all.Given as goal

abbrev pub invariant-loop-x : goal.invariant-loop-x
invariant-loop-x l = length l.scores.items ≡ length l.initial.scores.items
