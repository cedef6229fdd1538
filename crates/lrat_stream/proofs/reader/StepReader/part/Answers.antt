use Rattle.std.proofs.Common.{◌≡◌, ℕ, List, [], ◌++◌, ap, sym, ◌∙◌}
use Rattle.std.specs.Prelude.{OnOk}
use Rattle.lrat_text.specs.Words.{Word, words_of}
use Rattle.lrat_stream.specs.Ahead.{ahead}
use Rattle.lrat_stream.proofs.PartLaws.{cut_words, extended}
use Rattle.lrat_stream.proofs.WordSteps.{moved}
use Rattle.lrat_stream.proofs.reader.StepReader.part.Goals as goal

pub returns-clause-ahead : goal.returns-clause-ahead
returns-clause-ahead c =
    let checker = c.args.checker.now in
    let old = c.args.self.now in
    let joined = c.join.new.self in
    let first = c.join.new.checker in
    let last = c.take_words.new.checker in
    let reader = c.take_words.new.reader in
    let rest = c.in_ok-rest.rest.now in
    let whole = c.split_at.result.0.now in
    let behind = c.split_at.result.1.now in
    extended c.extend_from_slice.result (joined.begun.items ++ behind) joined.begun.items c.extend_from_slice.new.self.items c.extend_from_slice.ensures.items (λ items more.
    c.in_ok-rest.ensures.ahead more
    ∙ ap (ahead checker.rule checker.vars checker.database joined.words first.open_addition) (cut_words joined.begun.items rest more whole behind c.blank_end.result c.in_ok-rest.ensures.one c.blank_end.ensures.within c.blank_end.ensures.ends c.split_at.ensures.front c.split_at.ensures.back)
    ∙ ap (λ (ws : List Word). ahead checker.rule checker.vars checker.database joined.words first.open_addition (ws ++ words_of ((joined.begun.items ++ behind) ++ more))) (sym c.of.ensures)
    ∙ moved checker.rule first.rule checker.vars first.vars checker.database first.database c.join.ensures.rule c.join.ensures.vars c.join.ensures.database joined.words reader first.open_addition last.open_addition (c.of.result ++ words_of ((joined.begun.items ++ behind) ++ more)) (words_of ((joined.begun.items ++ behind) ++ more)) (c.in_ok-take_words.ensures.ahead (words_of ((joined.begun.items ++ behind) ++ more)))
    ∙ ap (λ (xs : List ℕ). ahead checker.rule checker.vars checker.database reader last.open_addition (words_of (xs ++ more))) (sym items))
