use Rattle.std.proofs.Common.{◌+◌, ◌*◌}
use Rattle.fbas_model.specs.QuorumSets.{all_entries, all_entries_of}
use Rattle.fbas_model.specs.Lists.{inner_entries, entries_of}
use Rattle.fbas_plain.proofs.+choices.Given as goal

abbrev pub decreases-picks_inner : goal.decreases-picks_inner
decreases-picks_inner l = 3 * all_entries_of (inner_entries l.inner.now)

abbrev pub decreases-picks : goal.decreases-picks
decreases-picks l = 3 * all_entries_of (entries_of l.nodes.now l.inner.now) + 1

abbrev pub decreases-has_choice_within_either : goal.decreases-has_choice_within_either
decreases-has_choice_within_either l = 3 * all_entries l.set.now + 2
