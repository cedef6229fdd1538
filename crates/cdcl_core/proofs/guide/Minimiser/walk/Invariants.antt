use Rattle.cdcl_core.proofs.guide.Minimiser.walk.Given as goal

abbrev pub decreases-loop-left : goal.decreases-loop-left
decreases-loop-left l = l.left
