use Rattle.search_heuristics.proofs.groups.CounterRows.put_row.Given as goal

abbrev pub decreases-loop-count : goal.decreases-loop-count
decreases-loop-count l = l.count
