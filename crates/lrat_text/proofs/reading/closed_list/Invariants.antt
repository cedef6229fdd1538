use Rattle.std.proofs.Common.{◌≡◌, length}
use Rattle.lrat_text.specs.Lines.{closed_list}
use Rattle.lrat_text.proofs.ListLaws.{behind}
use Rattle.lrat_text.proofs.reading.closed_list.Given as goal

abbrev pub invariant-loop-word : goal.invariant-loop-word
invariant-loop-word g l = closed_list g.T.Number.number_in l.fn.words ≡ behind l.numbers.items (closed_list g.T.Number.number_in l.words)

abbrev pub decreases-loop-word : goal.decreases-loop-word
decreases-loop-word g l = length l.words
