use Rattle.std.proofs.Common.{◌≡◌, length}
use Rattle.search_heuristics.proofs.order.raise_lits.Given as goal

abbrev pub invariant-loop-l : goal.invariant-loop-l
invariant-loop-l l = length l.scores.items ≡ length l.initial.scores.items
