use Rattle.std.proofs.Common.{rules, ◌≡◌, ◌∷◌, [], sym, ◌∙◌, not}
use Rattle.lrat_text.specs.Words.{words_of, is_blank}
use Rattle.lrat_text.proofs.WordLaws.{prefix_len-le, next_word, no_word}
use Rattle.lrat_text.proofs.words.WordsIterator.next.Goals as goal

pub split_at-requires : goal.split_at-requires
split_at-requires c = rw c.blanks.ensures (prefix_len-le is_blank c.self.inside.rest.now)

pub returns-then-is_empty-clause-steps : goal.returns-then-is_empty-clause-steps
returns-then-is_empty-clause-steps c =
    let none : c.args.self.now ≡ [] = sym c.self.view_is ∙ no_word c.self.inside.rest.now c.split_at.result.1.now c.blanks.result c.blanks.ensures c.split_at.ensures.back (search rules) in
    (none, none)

pub split_at-requires-2 : goal.split_at-requires-2
split_at-requires-2 c = rw c.word_len.ensures (prefix_len-le (λ b. not (is_blank b)) c.split_at.result.1.now)

pub returns-clause-steps : goal.returns-clause-steps
returns-clause-steps c = sym c.self.view_is ∙ next_word c.self.inside.rest.now c.split_at.result.1.now c.split_at-2.result.0.now c.split_at-2.result.1.now c.blanks.result c.word_len.result c.blanks.ensures c.split_at.ensures.back (search rules) c.word_len.ensures c.split_at-2.ensures.front c.split_at-2.ensures.back

pub returns-clause-goes : goal.returns-clause-goes
returns-clause-goes c =
    let all : c.args.self.now ≡ c.split_at-2.result.0.now ∷ words_of c.split_at-2.result.1.now = sym c.self.view_is ∙ next_word c.self.inside.rest.now c.split_at.result.1.now c.split_at-2.result.0.now c.split_at-2.result.1.now c.blanks.result c.word_len.result c.blanks.ensures c.split_at.ensures.back (search rules) c.word_len.ensures c.split_at-2.ensures.front c.split_at-2.ensures.back in
    rw all (search rules)
