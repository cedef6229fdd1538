-- Lines that are taken in parts.
use Rattle.std.proofs.Common.{◌≡◌, ◌≢◌, ℕ, ◌+◌, ◌≤◌, ◌<◌, List, [], ◌∷◌, ◌++◌, length, Bool, true, false, ◌==◌, if◌then◌else◌, IsTrue, Option, Some, Result, Ok, Err, refl, sym, ◌∙◌, ap, subst, arith, length-append}
use Rattle.std.proofs.lemmas.Bool.{le-leb, false≢true}
use Rattle.std.proofs.lemmas.List.{append-nil}
use Rattle.cert_lines.specs.Lines.{Lines, tail, line, lines_of, with_byte}
use Rattle.cert_lines.specs.Limits.{Unread, Taken, next_line}
use Rattle.cert_lines.specs.Parts.{with_front}
use Rattle.cert_lines.specs.Taking.{goes_on, IsBegun, TookPart, TookLine}
use Rattle.cert_lines.specs.Texts.{Text, texts_in, texts_of, next_text, IsTooLong}
use Rattle.cert_lines.specs.declared.lines.TheConstants.{MAX_LINES, MAX_LINE_BYTES}
use Rattle.cert_lines.specs.declared.pieces.LineEnd.{LineEnd}
use Rattle.cert_lines.specs.declared.pieces.LineEnd.TheVariants.{More, Feed, Input}
use Rattle.cert_lines.specs.declared.faults.CertError.{CertError}
use Rattle.cert_lines.specs.declared.faults.CertError.TheVariants.{Truncated, TooManyLines, LineTooLong}
use Rattle.cert_lines.proofs.Cuts.{IsSomething, something}
use Rattle.cert_lines.proofs.Fronts.{limit_false, too_long, with_front-nothing, with_front-append}

-- ---- parts of a line

begun_more : (end : LineEnd) (front part : List ℕ) (before now rest : Lines) → before ≡ with_front front now → IsBegun end part now rest → IsBegun end (front ++ part) before rest
begun_more More front part before now rest is begun = is ∙ ap (with_front front) begun ∙ with_front-append front part rest
begun_more Feed front part before now rest is begun = is ∙ ap (with_front front) begun
begun_more Input front part before now rest is begun = (is ∙ ap (with_front front) begun.0, begun.1)

-- the first part of a line
pub first_part : (tells : Bool) (old : Unread) (left : List ℕ) (end : LineEnd) (new : Unread) (left_new : List ℕ) → old.taken ≡ 0 → TookPart tells old left end new left_new → TookLine tells old.number (old.unread ++ left) new.part end new left_new
first_part tells old left end new left_new fresh part = record {
  lines = part.lines;
  number = part.number;
  taken = part.taken ∙ ap (λ (n : ℕ). if goes_on end then n else 0) (omega (arith, fresh));
  short = omega (arith, fresh, part.short);
}

-- one more
pub more_part : (tells : Bool) (l : ℕ) (before bytes : List ℕ) (first : LineEnd) (old : Unread) (left : List ℕ) (end : LineEnd) (new : Unread) (left_new : List ℕ) → goes_on first ≡ true
    → TookLine tells l before bytes first old left → TookPart tells old left end new left_new → TookLine tells l before (bytes ++ new.part) end new left_new
more_part tells l before bytes More old left end new left_new on took part = record {
  lines = λ told. begun_more end bytes new.part (lines_of before) (lines_of (old.unread ++ left)) (lines_of (new.unread ++ left_new)) (took.lines told) (part.lines told);
  number = part.number ∙ ap (λ (n : ℕ). if goes_on end then n else n + 1) took.number;
  taken = part.taken ∙ ap (λ (n : ℕ). if goes_on end then n else 0) (omega (arith, took.taken, length-append bytes new.part));
  short = omega (arith, took.taken, part.short, length-append bytes new.part);
}
more_part tells l before bytes Feed old left end new left_new on took part = absurd (false≢true on)
more_part tells l before bytes Input old left end new left_new on took part = absurd (false≢true on)

-- a fault of a line that was not begun
pub first_long : (l taken : ℕ) (bytes : List ℕ) (fault : CertError) → taken ≡ 0 → ((front : List ℕ) → length front ≡ taken → IsTooLong l (with_front front (lines_of bytes)) fault) → IsTooLong l (lines_of bytes) fault
first_long l taken bytes fault fresh long = subst (λ (ls : Lines). IsTooLong l ls fault) (with_front-nothing (lines_of bytes)) (long [] (sym fresh))

-- a fault of what follows such bytes
pub long_line : (tells : Bool) (l : ℕ) (before bytes : List ℕ) (first : LineEnd) (old : Unread) (left : List ℕ) (fault : CertError) → goes_on first ≡ true → TookLine tells l before bytes first old left → IsTrue tells
    → ((front : List ℕ) → length front ≡ old.taken → IsTooLong old.number (with_front front (lines_of (old.unread ++ left))) fault) → IsTooLong l (lines_of before) fault
long_line tells l before bytes More old left fault on took told long =
    subst (λ (k : ℕ). IsTooLong k (lines_of before) fault) took.number (subst (λ (ls : Lines). IsTooLong old.number ls fault) (sym (took.lines told)) (long bytes (sym took.taken)))
long_line tells l before bytes Feed old left fault on took told long = absurd (false≢true on)
long_line tells l before bytes Input old left fault on took told long = absurd (false≢true on)

-- ---- whole lines

-- a line that its line feed ends
pub whole_line : (tells : Bool) (l : ℕ) (before text : List ℕ) (end : LineEnd) (new : Unread) (left : List ℕ) → goes_on end ≡ false → end ≢ Input → l ≤ MAX_LINES → TookLine tells l before text end new left → IsTrue tells
    → next_line l (lines_of before) ≡ Ok (record { text = text; more = lines_of (new.unread ++ left) })
whole_line tells l before text More new left off fed few took told = absurd (false≢true (sym off))
whole_line tells l before text Feed new left off fed few took told = ap (next_line l) (took.lines told) ∙ rw (le-leb l MAX_LINES few, le-leb (length text) MAX_LINE_BYTES took.short) refl
whole_line tells l before text Input new left off fed few took told = absurd (fed refl)

-- one that the end of the input cuts
pub cut_line : (tells : Bool) (l : ℕ) (before text : List ℕ) (end : LineEnd) (new : Unread) (left : List ℕ) → end ≡ Input → l ≤ MAX_LINES → TookLine tells l before text end new left → IsTrue tells → next_line l (lines_of before) ≡ Err (Truncated l)
cut_line tells l before text More new left is few took told = absurd cc
cut_line tells l before text Feed new left is few took told = absurd cc
cut_line tells l before text Input new left is few took told = ap (next_line l) (took.lines told).0 ∙ rw (le-leb l MAX_LINES few, le-leb (length text) MAX_LINE_BYTES took.short) refl

-- one that ends either way
pub whole_text : (tells : Bool) (l : ℕ) (before text : List ℕ) (end : LineEnd) (new : Unread) (left : List ℕ) → goes_on end ≡ false → 0 < length before → l ≤ MAX_LINES → TookLine tells l before text end new left → IsTrue tells
    → next_text l (texts_of before) ≡ Ok (Some (record { text = text; more = texts_of (new.unread ++ left) }))
whole_text tells l before text More new left off some few took told = absurd (false≢true (sym off))
whole_text tells l before text Feed new left off some few took told = ap (λ (ls : Lines). next_text l (texts_in ls)) (took.lines told) ∙ rw (le-leb l MAX_LINES few, le-leb (length text) MAX_LINE_BYTES took.short) refl
whole_text tells l [] text Input new left off some few took told = absurd (omega (arith, some))
whole_text tells l (b ∷ before) [] Input new left off some few took told = absurd (subst IsSomething (took.lines told).0 (something b before))
whole_text tells l (b ∷ before) (c ∷ text) Input new left off some few took told =
    ap (λ (ls : Lines). next_text l (texts_in ls)) (took.lines told).0
    ∙ rw (le-leb l MAX_LINES few, le-leb (length (c ∷ text)) MAX_LINE_BYTES took.short) (ap (λ (ls : Lines). Ok (Some (record { text = c ∷ text; more = texts_in ls }))) (sym (took.lines told).1))

-- ---- limits of a line that was begun

-- the line that begins with these bytes
begun_text : (front : List ℕ) (ls : Lines) → 0 < length front → (text : List ℕ) × (more : List (List ℕ)) × (texts_in (with_front front ls) ≡ text ∷ more) × (length front ≤ length text)
begun_text [] ls some = absurd (omega (arith, some))
begun_text (b ∷ front) (tail bytes) some = (b ∷ (front ++ bytes), [], refl, omega (arith, length-append front bytes))
begun_text (b ∷ front) (line text more) some = (b ∷ (front ++ text), texts_in more, refl, omega (arith, length-append front text))

text_long : (l : ℕ) (text : List ℕ) (more texts : List (List ℕ)) → texts ≡ text ∷ more → l ≤ MAX_LINES → MAX_LINE_BYTES < length text → next_text l texts ≡ Err (LineTooLong l)
text_long l text more texts is few long = ap (next_text l) is ∙ rw (le-leb l MAX_LINES few, limit_false (length text) MAX_LINE_BYTES long) refl

text_many : (l : ℕ) (text : List ℕ) (more texts : List (List ℕ)) → texts ≡ text ∷ more → MAX_LINES < l → next_text l texts ≡ Err TooManyLines
text_many l text more texts is many = ap (next_text l) is ∙ rw (limit_false l MAX_LINES many) refl

begun_with : (end : LineEnd) (part : List ℕ) (old rest : Lines) → IsBegun end part old rest → (more : Lines) × (old ≡ with_front part more)
begun_with More part old rest is = (rest, is)
begun_with Feed part old rest is = (line [] rest, is ∙ ap (λ (t : List ℕ). line t rest) (sym (append-nil part)))
begun_with Input part old rest is = (tail [], is.0 ∙ ap tail (sym (append-nil part)))

-- a part with which its line is too long
pub part_too_long : (l : ℕ) (end : LineEnd) (front part : List ℕ) (old rest : Lines) → l ≤ MAX_LINES → MAX_LINE_BYTES < length front + length part → IsBegun end part old rest → IsTooLong l (with_front front old) (LineTooLong l)
part_too_long l end front part old rest few long is =
    let begun = begun_with end part old rest is in
    let more : with_front front old ≡ with_front (front ++ part) begun.0 = ap (with_front front) begun.1 ∙ with_front-append front part begun.0 in
    let size : MAX_LINE_BYTES < length (front ++ part) = omega (arith, long, length-append front part) in
    let text = begun_text (front ++ part) begun.0 (omega (arith, size)) in
    record {
      line = ap (next_line l) more ∙ too_long l (front ++ part) begun.0 few size;
      text = ap (λ (ls : Lines). next_text l (texts_in ls)) more ∙ text_long l text.0 text.1 (texts_in (with_front (front ++ part) begun.0)) text.2 few (omega (arith, size, text.3));
    }

byte_text : (b : ℕ) (ls : Lines) → (text : List ℕ) × (more : List (List ℕ)) × (texts_in (with_byte b ls) ≡ text ∷ more)
byte_text b (tail bytes) = (b ∷ bytes, [], refl)
byte_text b (line text more) = (b ∷ text, texts_in more, refl)

feed_text : (b : ℕ) (feed : Bool) (ls : Lines) → (text : List ℕ) × (more : List (List ℕ)) × (texts_in (if feed then line [] ls else with_byte b ls) ≡ text ∷ more)
feed_text b true ls = ([], texts_in ls, refl)
feed_text b false ls = byte_text b ls

-- some line is left where some byte is
some_text : (bytes : List ℕ) → 0 < length bytes → (text : List ℕ) × (more : List (List ℕ)) × (texts_of bytes ≡ text ∷ more)
some_text [] some = absurd (omega (arith, some))
some_text (b ∷ bytes) some = feed_text b (b == 10) (lines_of bytes)

-- a line too many
pub first_too_many : (l : ℕ) (bytes : List ℕ) → MAX_LINES < l → 0 < length bytes → next_text l (texts_of bytes) ≡ Err TooManyLines
first_too_many l bytes many some = let text = some_text bytes some in text_many l text.0 text.1 (texts_of bytes) text.2 many

-- ---- lines that end

pub number_behind : (tells : Bool) (l : ℕ) (before text : List ℕ) (end : LineEnd) (new : Unread) (left : List ℕ) → goes_on end ≡ false → TookLine tells l before text end new left → new.number ≡ l + 1
number_behind tells l before text end new left off took = took.number ∙ ap (λ (b : Bool). if b then l else l + 1) off

pub nothing_taken : (tells : Bool) (l : ℕ) (before text : List ℕ) (end : LineEnd) (new : Unread) (left : List ℕ) → goes_on end ≡ false → TookLine tells l before text end new left → new.taken ≡ 0
nothing_taken tells l before text end new left off took = took.taken ∙ ap (λ (b : Bool). if b then length text else 0) off

pub same_number : (tells : Bool) (l : ℕ) (before text : List ℕ) (end : LineEnd) (new : Unread) (left : List ℕ) → goes_on end ≡ true → TookLine tells l before text end new left → new.number ≡ l
same_number tells l before text end new left on took = took.number ∙ ap (λ (b : Bool). if b then l else l + 1) on

-- the same with a text that equals this one
pub same_text : (r : Result Taken CertError) (s t : List ℕ) (more : Lines) → r ≡ Ok (record { text = s; more = more }) → t ≡ s → r ≡ Ok (record { text = t; more = more })
same_text r s t more is same = subst (λ (xs : List ℕ). r ≡ Ok (record { text = xs; more = more })) (sym same) is

-- the same line of the same bytes
pub same_texts : (n m : ℕ) (old new : List ℕ) (r : Result (Option Text) CertError) → m ≡ n → old ≡ new → next_text m (texts_of new) ≡ r → next_text n (texts_of old) ≡ r
same_texts n m old new r number is told = ap (λ (xs : List ℕ). next_text n (texts_of xs)) is ∙ subst (λ (k : ℕ). next_text k (texts_of new) ≡ r) number told
