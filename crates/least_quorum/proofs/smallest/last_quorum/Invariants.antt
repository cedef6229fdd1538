use Rattle.std.proofs.Common.{◌≡◌, None, take}
use Rattle.enumeration_journal.specs.declared.kinds.Listed.TheVariants.{Smaller}
use Rattle.blocking_lists.specs.Lines.{listed_in}
use Rattle.least_journal.specs.Least.{last_of}
use Rattle.least_quorum.proofs.smallest.last_quorum.Given as goal

abbrev pub invariant-loop-line : goal.invariant-loop-line
invariant-loop-line l = l.last ≡ last_of None (listed_in Smaller (take l.line-index l.listed))
