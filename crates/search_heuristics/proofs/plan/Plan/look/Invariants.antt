use Rattle.search_heuristics.proofs.plan.Plan.look.Given as goal

abbrev pub decreases-loop-self : goal.decreases-loop-self
decreases-loop-self l = l.self.left
