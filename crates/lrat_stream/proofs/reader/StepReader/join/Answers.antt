use Rattle.std.proofs.Common.{◌≡◌, ◌≢◌, true, ℕ, List, [], ◌∷◌, ◌++◌, length, take, drop, refl, ap, sym, ◌∙◌, subst, rules}
use Rattle.std.specs.List.{position_or_len}
use Rattle.lrat_text.specs.Words.{Word, is_blank, words_of}
use Rattle.lrat_stream.specs.declared.reader.StepReader.{StepReader}
use Rattle.lrat_stream.specs.Solid.{IsSolid}
use Rattle.lrat_stream.specs.Ahead.{ahead}
use Rattle.lrat_stream.proofs.PartLaws.{position_le, before_blank, at_blank, solid_append, some_bytes, before, regrouped}
use Rattle.lrat_stream.proofs.reader.StepReader.join.Goals as goal
use Rattle.lrat_stream.proofs.reader.StepReader.join.Goals.{then-not-is_empty+in_ok-end_word, else-not-is_empty}

pub split_at-requires : goal.split_at-requires
split_at-requires c = rw c.word_len.ensures (position_le c.args.part.now)

pub end_word-requires-clause-solid : goal.end_word-requires-clause-solid
end_word-requires-clause-solid c =
    let part = c.args.part.now in
    let end : c.split_at.result.0.now ≡ take (position_or_len is_blank part) part = c.split_at.ensures.front ∙ ap (λ (n : ℕ). take n part) c.word_len.ensures in
    subst IsSolid (sym c.in_ok-extend_from_slice.ensures.items) (solid_append c.args.self.now.begun.items c.split_at.result.0.now c.requires.solid (subst IsSolid (sym end) (before_blank part)))

pub returns-clause-solid : goal.returns-clause-solid
returns-clause-solid c =
    let part = c.args.part.now in
    let end : c.split_at.result.0.now ≡ take (position_or_len is_blank part) part = c.split_at.ensures.front ∙ ap (λ (n : ℕ). take n part) c.word_len.ensures in
    elim c.if-not-is_empty.branch [
      | then-not-is_empty+in_ok-end_word w ↦ subst IsSolid (sym (ap (λ (r : StepReader). r.begun.items) w.self-is ∙ w.in_ok-end_word.ensures.begun)) refl
      | else-not-is_empty w ↦
          subst IsSolid (sym (ap (λ (r : StepReader). r.begun.items) w.self-is ∙ c.in_ok-extend_from_slice.ensures.items))
          (solid_append c.args.self.now.begun.items c.split_at.result.0.now c.requires.solid (subst IsSolid (sym end) (before_blank part)))
    ]

pub returns-clause-ahead : goal.returns-clause-ahead
returns-clause-ahead c = λ more.
    let checker = c.args.checker.now in
    let old = c.args.self.now in
    let part = c.args.part.now in
    let end = c.split_at.result.0.now in
    let rest = c.split_at.result.1.now in
    let begun : c.extend_from_slice.new.self.items ≡ old.begun.items ++ end = c.in_ok-extend_from_slice.ensures.items in
    let regroup = ap (λ (bytes : List ℕ). ahead checker.rule checker.vars checker.database old.words checker.open_addition (words_of bytes))
    (regrouped old.begun.items part end rest more c.word_len.result c.split_at.ensures.front c.split_at.ensures.back ∙ ap (λ (xs : List ℕ). xs ++ (rest ++ more)) (sym begun)) in
    elim c.if-not-is_empty.branch [
      | then-not-is_empty+in_ok-end_word w ↦
          let some : (b : ℕ) × (ys : List ℕ) × (rest ≡ b ∷ ys) = some_bytes rest (search rules) in
          let blank : is_blank some.0 ≡ true = at_blank part some.0 some.1 (ap (λ (n : ℕ). drop n part) (sym c.word_len.ensures) ∙ sym c.split_at.ensures.back ∙ some.2) in
          let parts : words_of (c.extend_from_slice.new.self.items ++ (rest ++ more)) ≡ words_of c.extend_from_slice.new.self.items ++ words_of (rest ++ more) =
          subst (λ (xs : List ℕ). words_of (c.extend_from_slice.new.self.items ++ (xs ++ more)) ≡ words_of c.extend_from_slice.new.self.items ++ words_of (xs ++ more)) (sym some.2) (before c.extend_from_slice.new.self.items some.0 (some.1 ++ more) blank) in
          rw (w.self-is, w.checker-is, w.in_ok-end_word.ensures.begun)
          (regroup ∙ ap (λ (ws : List Word). ahead checker.rule checker.vars checker.database old.words checker.open_addition ws) parts ∙ w.in_ok-end_word.ensures.ahead (words_of (rest ++ more)))
      | else-not-is_empty w ↦ rw (w.self-is, w.checker-is) regroup
    ]
