use Rattle.search_heuristics.proofs.heap.rise.Given as goal

abbrev pub decreases-loop-at : goal.decreases-loop-at
decreases-loop-at l = l.at
