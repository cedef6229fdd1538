use Rattle.search_heuristics.proofs.queue.Links.last_open.Given as goal

abbrev pub decreases-loop-left : goal.decreases-loop-left
decreases-loop-left l = l.left
