use Rattle.std.proofs.Common.{◌≡◌, length}
use Rattle.lrat_text.specs.Words.{words_of}
use Rattle.lrat_stream.proofs.spelled.without_blanks.Given as goal

abbrev pub invariant-loop-byte : goal.invariant-loop-byte
invariant-loop-byte l = words_of l.rest ≡ words_of l.text

abbrev pub decreases-loop-byte : goal.decreases-loop-byte
decreases-loop-byte l = length l.rest
