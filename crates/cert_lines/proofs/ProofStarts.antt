-- How the lines of a proof from outside begin.
use Rattle.std.proofs.Common.{◌≡◌, ℕ, ◌+◌, ◌<◌, List, [], ◌∷◌, ◌++◌, length, Bool, true, false, ◌||◌, ◌&&◌, refl, sym, ap, ◌∙◌, arith, length-append, append_assoc}
use Rattle.std.proofs.lemmas.Bool.{and_parts, false≢true, or_parts}
use Rattle.std.proofs.lemmas.List.Folds.{list_all-append}
use Rattle.lrat_text.specs.Words.{is_blank, words_of}
use Rattle.lrat_text.specs.Lines.{step_in, step_of_words}
use Rattle.lrat_stream.proofs.PartLaws.{parted}
use Rattle.cert_lines.specs.Steps.{is_comment, is_wordless, is_passed_over}

-- a part that is passed over in a line that is no comment has no word
pub blank_part : (comment : Bool) (part : List ℕ) → (comment || is_wordless part) ≡ true → comment ≡ false → is_wordless part ≡ true
blank_part true part is plain = absurd (false≢true (sym plain))
blank_part false part is plain = is

pub wordless_more : (front part : List ℕ) → is_wordless front ≡ true → is_wordless part ≡ true → is_wordless (front ++ part) ≡ true
wordless_more front part first second = list_all-append is_blank front part ∙ rw (first, second) refl

not_wordless_more : (front part : List ℕ) → is_wordless part ≡ false → is_wordless (front ++ part) ≡ false
not_wordless_more [] part is = is
not_wordless_more (b ∷ front) part is = elim (is_blank b) as (λ t. (t && is_wordless (front ++ part)) ≡ false) [
  | true ↦ not_wordless_more front part is
  | false ↦ refl
]

not_wordless_front : (front part : List ℕ) → is_wordless front ≡ false → is_wordless (front ++ part) ≡ false
not_wordless_front front part is = list_all-append is_blank front part ∙ rw is refl

-- how a line begins is seen at its first part
pub comment_front : (part more : List ℕ) → 0 < length part → is_comment (part ++ more) ≡ is_comment part
comment_front [] more some = absurd (omega (arith, some))
comment_front (b ∷ bytes) more some = refl

some_byte : (part : List ℕ) → is_wordless part ≡ false → 0 < length part
some_byte [] is = absurd (false≢true (sym is))
some_byte (b ∷ part) is = omega arith

-- a line whose blanks a part with a word follows
pub word_text : (comment : Bool) (blanks part more : List ℕ) → is_comment (blanks ++ part) ≡ comment → (comment || is_wordless part) ≡ false → is_passed_over ((blanks ++ part) ++ more) ≡ false
word_text comment blanks part more begins is =
    let parts = or_parts comment (is_wordless part) is in
    let some : 0 < length (blanks ++ part) = omega (arith, some_byte part parts.1, length-append blanks part) in
    rw (comment_front (blanks ++ part) more some ∙ begins ∙ parts.0) (not_wordless_front (blanks ++ part) more (not_wordless_more blanks part parts.1))

-- a comment, or a line whose parts have no word
pub passed_text : (comment : Bool) (blanks part : List ℕ) → is_comment (blanks ++ part) ≡ comment → (comment ≡ false → is_wordless blanks ≡ true) → (comment || is_wordless part) ≡ true → is_passed_over (blanks ++ part) ≡ true
passed_text true blanks part begins blank is = rw begins refl
passed_text false blanks part begins blank is = rw begins (wordless_more blanks part (blank refl) is)

-- words do not begin with blanks
pub blank_words : (blanks more : List ℕ) → is_wordless blanks ≡ true → words_of (blanks ++ more) ≡ words_of more
blank_words [] more is = refl
blank_words (b ∷ blanks) more is = let parts = and_parts (is_blank b) (is_wordless blanks) is in parted [] b (blanks ++ more) parts.0 ∙ blank_words blanks more parts.1

pub blank_step : (blanks part suffix : List ℕ) → is_wordless blanks ≡ true → step_in ((blanks ++ part) ++ suffix) ≡ step_in (part ++ suffix)
blank_step blanks part suffix is = ap step_of_words (ap words_of (append_assoc blanks part suffix) ∙ blank_words blanks (part ++ suffix) is)
