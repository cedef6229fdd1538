use Rattle.fbas_model.specs.Nodes.{members}
use Rattle.greatest_quorum.specs.Greatest.{greatest_of}
use Rattle.enumeration_journal.proofs.Greatest.{counted_greatest}
use Rattle.enumeration_journal.proofs.Whole.{whole_has_each}
use Rattle.enumeration_journal.proofs.a_whole_journal_has_each_set_that_is_sought.Goals as goal

pub returns : goal.returns
returns c = λ k f b journal same whole. whole_has_each k f (members b) (greatest_of f b) (counted_greatest f b same) journal whole
