-- A line of what is left, byte by byte.
use Rattle.std.proofs.Common.{◌≡◌, ℕ, suc, ◌+◌, ◌≤◌, ◌<◌, List, [], ◌∷◌, ◌++◌, length, false, Err, inl, inr, refl, sym, ◌∙◌, ap, arith, leb, length-append, append_assoc}
use Rattle.std.proofs.lemmas.Bool.{cases_Bool, leb-true, le-leb, ne_eqb}
use Rattle.std.proofs.lemmas.List.{append-nil}
use Rattle.cert_lines.specs.Lines.{Lines, tail, line, lines_of, with_byte}
use Rattle.cert_lines.specs.Limits.{next_line}
use Rattle.cert_lines.specs.Parts.{IsFeedless, with_front}
use Rattle.cert_lines.specs.declared.lines.TheConstants.{MAX_LINES, MAX_LINE_BYTES}
use Rattle.cert_lines.specs.declared.faults.CertError.TheVariants.{TooManyLines, LineTooLong}

pub with_front-nothing : (ls : Lines) → with_front [] ls ≡ ls
with_front-nothing (tail bytes) = refl
with_front-nothing (line text more) = refl

with_byte-front : (b : ℕ) (front : List ℕ) (ls : Lines) → with_byte b (with_front front ls) ≡ with_front (b ∷ front) ls
with_byte-front b front (tail bytes) = refl
with_byte-front b front (line text more) = refl

pub with_front-append : (front part : List ℕ) (ls : Lines) → with_front front (with_front part ls) ≡ with_front (front ++ part) ls
with_front-append front part (tail bytes) = ap tail (sym (append_assoc front part bytes))
with_front-append front part (line text more) = ap (λ (t : List ℕ). line t more) (sym (append_assoc front part text))

-- bytes without a line feed
pub part_front : (part bytes : List ℕ) → IsFeedless part → lines_of (part ++ bytes) ≡ with_front part (lines_of bytes)
part_front [] bytes feedless = sym (with_front-nothing (lines_of bytes))
part_front (b ∷ part) bytes feedless =
    rw (ne_eqb b 10 (feedless 0 (omega (arith))))
    (ap (with_byte b) (part_front part bytes (λ k within. feedless (suc k) (omega (arith, within)))) ∙ with_byte-front b part (lines_of bytes))

-- and with one after them
pub feed_front : (part bytes : List ℕ) → IsFeedless part → lines_of (part ++ 10 ∷ bytes) ≡ line part (lines_of bytes)
feed_front part bytes feedless = part_front part (10 ∷ bytes) feedless ∙ ap (λ (t : List ℕ). line t (lines_of bytes)) (append-nil part)

pub limit_false : (n m : ℕ) → m < n → leb n m ≡ false
limit_false n m less = elim (cases_Bool (leb n m)) [
  | inl e ↦ let le = leb-true n m e in absurd (omega arith)
  | inr e ↦ e
]

pub too_many : (l : ℕ) (ls : Lines) → MAX_LINES < l → next_line l ls ≡ Err TooManyLines
too_many l (tail bytes) many = rw (limit_false l MAX_LINES many) refl
too_many l (line text more) many = rw (limit_false l MAX_LINES many) refl

pub too_long : (l : ℕ) (front : List ℕ) (ls : Lines) → l ≤ MAX_LINES → MAX_LINE_BYTES < length front → next_line l (with_front front ls) ≡ Err (LineTooLong l)
too_long l front (tail bytes) few long = rw (le-leb l MAX_LINES few, limit_false (length (front ++ bytes)) MAX_LINE_BYTES (omega (arith, length-append front bytes))) refl
too_long l front (line text more) few long = rw (le-leb l MAX_LINES few, limit_false (length (front ++ text)) MAX_LINE_BYTES (omega (arith, length-append front text))) refl
