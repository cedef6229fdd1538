use Rattle.fbas_model.specs.Nodes.{members}
use Rattle.greatest_quorum.specs.Greatest.{greatest_of}
use Rattle.enumeration_journal.proofs.Greatest.{counted_greatest}
use Rattle.group_journal.proofs.Whole.{whole_has_groups}
use Rattle.group_journal.proofs.a_whole_journal_has_each_minimal_blocking_set_of_groups.Goals as goal

pub returns : goal.returns
returns c = λ f b groups journal same whole. whole_has_groups f (members b) (greatest_of f b) groups (counted_greatest f b same) journal whole
