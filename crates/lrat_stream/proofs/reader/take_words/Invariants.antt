use Rattle.std.proofs.Common.{◌≡◌, List, ◌++◌, length}
use Rattle.lrat_text.specs.Words.{Word}
use Rattle.lrat_stream.specs.Ahead.{ahead, Fits}
use Rattle.lrat_stream.proofs.reader.take_words.Given as goal

abbrev pub invariant-loop-word : goal.invariant-loop-word
invariant-loop-word l = record {
  fits : Fits l.reader l.checker.open_addition;
  ahead : (rest : List Word) → ahead l.fn.checker.rule l.fn.checker.vars l.fn.checker.database l.fn.reader l.fn.checker.open_addition (l.fn.words ++ rest) ≡ ahead l.fn.checker.rule l.fn.checker.vars l.fn.checker.database l.reader l.checker.open_addition (l.words ++ rest);
  database : l.checker.database ≡ l.fn.checker.database;
  rule : l.checker.rule ≡ l.fn.checker.rule;
  vars : l.checker.vars ≡ l.fn.checker.vars;
}

abbrev pub decreases-loop-word : goal.decreases-loop-word
decreases-loop-word l = length l.words
