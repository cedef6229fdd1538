use Rattle.fbas_model.specs.Nodes.{members}
use Rattle.greatest_quorum.specs.Greatest.{greatest_of}
use Rattle.enumeration_journal.proofs.Greatest.{counted_greatest}
use Rattle.enumeration_journal.proofs.Whole.{whole_has_others}
use Rattle.enumeration_journal.proofs.a_whole_journal_has_each_minimal_set_of_the_other_kind.Goals as goal

pub returns : goal.returns
returns c = λ k f b s journal same is whole. whole_has_others k f (members b) (greatest_of f b) (counted_greatest f b same) journal whole s is
