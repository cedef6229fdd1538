use Rattle.std.proofs.Common.{rules}
use Rattle.whatif_session.proofs.LineLaws.{threshold_few, threshold_many}
use Rattle.whatif_session.proofs.lines.threshold_edit.Goals as goal
use Rattle.whatif_session.proofs.lines.threshold_edit.Goals.{in_default-via-then-words-lt3, in_default-via-else-words-lt3+else-words-lt4}

pub returns-in_default : goal.returns-in_default
returns-in_default c = elim c.in_default.branch [
  | in_default-via-then-words-lt3 w ↦ search (rules, threshold_few)
  | in_default-via-else-words-lt3+else-words-lt4 w ↦ search (rules, threshold_many)
]
