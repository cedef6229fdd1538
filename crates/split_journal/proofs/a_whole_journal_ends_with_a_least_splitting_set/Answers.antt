use Rattle.std.proofs.Common.{length}
use Rattle.fbas_model.specs.Nodes.{members}
use Rattle.split_journal.specs.Formula.{left_of}
use Rattle.split_journal.specs.Nodes.{alone}
use Rattle.split_journal.specs.Rules.{least_split_answer}
use Rattle.split_journal.proofs.Left.{left_is}
use Rattle.split_journal.proofs.Least.{least_answer}
use Rattle.split_journal.proofs.Alone.{alone_sized, least_of_nodes}
use Rattle.split_journal.proofs.a_whole_journal_ends_with_a_least_splitting_set.Goals as goal

pub returns-clause-groups : goal.returns-clause-groups
returns-clause-groups c = λ version f b groups journal are whole. least_answer version f b (left_of f (members b)) groups (left_is f b) are journal whole

pub returns-clause-nodes : goal.returns-clause-nodes
returns-clause-nodes c = λ version f b journal whole.
    least_of_nodes f b (least_split_answer journal) (least_answer version f b (left_of f (members b)) (alone (length f)) (left_is f b) (alone_sized (length f) 0 (length f)) journal whole)
