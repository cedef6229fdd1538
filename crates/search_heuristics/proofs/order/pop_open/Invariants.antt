use Rattle.search_heuristics.proofs.order.pop_open.Given as goal

abbrev pub decreases-loop-x : goal.decreases-loop-x
decreases-loop-x l = l.heap.size
