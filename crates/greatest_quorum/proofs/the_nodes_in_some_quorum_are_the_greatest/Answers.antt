use Rattle.greatest_quorum.proofs.GreatestLaws.{greatest_is, greatest_only}
use Rattle.greatest_quorum.proofs.the_nodes_in_some_quorum_are_the_greatest.Goals as goal

pub returns-clause-greatest : goal.returns-clause-greatest
returns-clause-greatest c = greatest_is

pub returns-clause-only : goal.returns-clause-only
returns-clause-only c = greatest_only
