use Rattle.fbas_model.specs.Nodes.{members}
use Rattle.split_journal.specs.Formula.{left_of}
use Rattle.split_journal.proofs.Left.{left_is}
use Rattle.split_journal.proofs.InOrder.{list_of_splits, list_of_nodes}
use Rattle.split_journal.proofs.a_whole_journal_has_each_minimal_splitting_set.Goals as goal

pub returns-clause-groups : goal.returns-clause-groups
returns-clause-groups c = λ version f b groups journal are whole. list_of_splits version f b (left_of f (members b)) groups (left_is f b) are journal whole

pub returns-clause-nodes : goal.returns-clause-nodes
returns-clause-nodes c = λ version f b journal whole. list_of_nodes version f b (left_of f (members b)) (left_is f b) journal whole
