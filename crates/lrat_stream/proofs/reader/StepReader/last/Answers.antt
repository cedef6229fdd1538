use Rattle.std.proofs.Common.{◌≡◌, ℕ, List, [], ◌++◌, ap, sym, ◌∙◌, append-nil}
use Rattle.lrat_checker.proofs.SubsetLaws.{on_ok}
use Rattle.lrat_text.specs.Words.{Word, words_of}
use Rattle.lrat_stream.specs.Ahead.{ahead}
use Rattle.lrat_stream.proofs.PartLaws.{either_none}
use Rattle.lrat_stream.proofs.WordSteps.{moved}
use Rattle.lrat_stream.proofs.reader.StepReader.last.Goals as goal

pub returns-clause-ahead : goal.returns-clause-ahead
returns-clause-ahead c =
    let checker = c.args.checker.now in
    let old = c.args.self.now in
    let part = c.args.part.now in
    let joined = c.join.new.self in
    let first = c.join.new.checker in
    let ended = c.end_word.new.self in
    let second = c.end_word.new.checker in
    let rest = c.in_ok-rest.rest.now in
    on_ok c.take_words.result _ _ c.take_words.ensures.ahead (λ later.
    ap (λ (bytes : List ℕ). ahead checker.rule checker.vars checker.database old.words checker.open_addition (words_of (old.begun.items ++ bytes))) (sym (append-nil part))
    ∙ c.in_ok-rest.ensures.ahead []
    ∙ ap (λ (bytes : List ℕ). ahead checker.rule checker.vars checker.database joined.words first.open_addition (words_of (joined.begun.items ++ bytes))) (append-nil rest)
    ∙ ap (ahead checker.rule checker.vars checker.database joined.words first.open_addition) (either_none joined.begun.items rest c.in_ok-rest.ensures.one)
    ∙ moved checker.rule first.rule checker.vars first.vars checker.database first.database c.join.ensures.rule c.join.ensures.vars c.join.ensures.database joined.words ended.words first.open_addition second.open_addition (words_of joined.begun.items ++ words_of rest) (words_of rest) (c.in_ok-end_word.ensures.ahead (words_of rest))
    ∙ ap (ahead checker.rule checker.vars checker.database ended.words second.open_addition) (sym c.of.ensures ∙ sym (append-nil c.of.result))
    ∙ moved checker.rule second.rule checker.vars second.vars checker.database second.database (c.end_word.ensures.rule ∙ c.join.ensures.rule) (c.end_word.ensures.vars ∙ c.join.ensures.vars) (c.end_word.ensures.database ∙ c.join.ensures.database) ended.words c.take_words.new.reader second.open_addition c.take_words.new.checker.open_addition (c.of.result ++ []) [] (later []))
