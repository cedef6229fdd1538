use Rattle.greatest_quorum.proofs.UnmetLaws.{unmet_is, unmet_only, available_counted}
use Rattle.greatest_quorum.proofs.the_nodes_that_are_not_satisfied_are_unmet.Goals as goal

pub returns-clause-unmet : goal.returns-clause-unmet
returns-clause-unmet c = unmet_is

pub returns-clause-only : goal.returns-clause-only
returns-clause-only c = unmet_only

pub returns-clause-available : goal.returns-clause-available
returns-clause-available c = available_counted
