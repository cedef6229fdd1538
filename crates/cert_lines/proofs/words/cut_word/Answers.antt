use Rattle.std.proofs.lemmas.List.{nil_from_length}
use Rattle.cert_lines.proofs.WordLaws.{position-le, more_words, one_word}
use Rattle.cert_lines.proofs.words.cut_word.Goals as goal

pub split_at-requires : goal.split_at-requires
split_at-requires c = rw c.word_len.ensures (position-le c.args.text.now)

pub returns-in-Some : goal.returns-in-Some
returns-in-Some c = more_words c.args.text.now c.split_at.result.0.now c.split_at.result.1.now c.word_len.result c.word_len.ensures c.split_at.ensures.front c.split_at.ensures.back c.in-Some.field-0-0.now c.in-Some.behind.now c.in-Some.ensures.cases.0

pub returns-in-None : goal.returns-in-None
returns-in-None c = one_word c.args.text.now c.split_at.result.0.now c.split_at.result.1.now c.word_len.result c.word_len.ensures c.split_at.ensures.front c.split_at.ensures.back (nil_from_length c.split_at.result.1.now c.in-None.ensures.cases)
