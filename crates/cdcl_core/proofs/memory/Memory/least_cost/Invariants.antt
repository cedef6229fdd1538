use Rattle.cdcl_core.proofs.memory.Memory.least_cost.Given as goal

abbrev pub decreases-loop-least : goal.decreases-loop-least
decreases-loop-least l = l.least
