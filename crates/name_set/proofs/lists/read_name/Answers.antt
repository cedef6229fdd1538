use Rattle.name_set.specs.Lists.{name_read}
use Rattle.name_set.proofs.lists.read_name.Goals as goal

pub returns-clause-value : goal.returns-clause-value
unfolding name_read
returns-clause-value c = c.node_at.ensures.value
