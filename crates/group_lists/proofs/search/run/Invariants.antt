use Rattle.group_lists.specs.Search.{IsGroupListingIn}
use Rattle.group_lists.proofs.search.run.Given as goal

abbrev pub invariant-lines : goal.invariant-lines
invariant-lines l = IsGroupListingIn l.searched l.fn.budget l.budget l.listed.items l.solver

abbrev pub decreases-lines : goal.decreases-lines
decreases-lines l = l.budget
