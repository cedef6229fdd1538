use Rattle.std.proofs.Common.{List, ◌++◌, ap, sym, ◌∙◌}
use Rattle.lrat_text.specs.Words.{Word, words_of}
use Rattle.lrat_stream.specs.Ahead.{ahead}
use Rattle.lrat_stream.proofs.reader.StepReader.end_word.Goals as goal

pub returns-clause-ahead : goal.returns-clause-ahead
returns-clause-ahead c = λ rest.
    let checker = c.args.checker.now in
    ap (λ (ws : List Word). ahead checker.rule checker.vars checker.database c.args.self.now.words checker.open_addition (ws ++ rest)) (ap words_of (sym c.deref.ensures.value) ∙ sym c.of.ensures)
    ∙ c.in_ok-take_words.ensures.ahead rest
