use Rattle.std.proofs.Common.{◌+◌}
use Rattle.fbas_model.specs.Nodes.{members}
use Rattle.least_quorum.specs.Search.{best_in, IsLeastListing}
use Rattle.least_quorum.proofs.search.run.Given as goal

abbrev pub invariant-lines : goal.invariant-lines
invariant-lines l = IsLeastListing l.system.sets (members l.faulty) l.greatest l.fn.budget l.budget l.listed.items l.solver

abbrev pub decreases-lines : goal.decreases-lines
decreases-lines l = l.budget + best_in l.greatest l.listed.items
