use Rattle.std.proofs.Common.{◌<◌, List, ◌∷◌, length, ap, sym, ◌∙◌, arith, rules}
use Rattle.lrat_text.specs.Words.{Word}
use Rattle.lrat_stream.proofs.PartLaws.{position_le}
use Rattle.lrat_stream.proofs.SpelledLaws.{first_word, blank_behind}
use Rattle.lrat_stream.proofs.spelled.any_word.Goals as goal

pub split_at-requires : goal.split_at-requires
split_at-requires c = rw c.word_len.ensures (position_le c.without_blanks-line.result.now)

pub behind_blank-requires : goal.behind_blank-requires
behind_blank-requires c = blank_behind c.without_blanks-line.result.now c.split_at.result.1.now c.word_len.result c.word_len.ensures c.split_at.ensures.back

pub returns-clause-some : goal.returns-clause-some
returns-clause-some c =
    let line = c.without_blanks-line.result.now in
    let word = c.split_at.result.0.now in
    let some : 0 < length line = search rules in
    sym c.without_blanks-line.ensures.words
    ∙ first_word line word c.split_at.result.1.now c.word_len.result c.word_len.ensures some (c.without_blanks-line.ensures.first some) c.split_at.ensures.front c.split_at.ensures.back
    ∙ ap (λ (ws : List Word). word ∷ ws) (sym c.behind_blank.ensures)
