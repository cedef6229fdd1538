-- Lines that are cut, and what passes the limits.
use Rattle.std.proofs.Common.{◌≡◌, ℕ, ◌+◌, ◌≤◌, List, [], ◌∷◌, ◌++◌, length, ◌==◌, Result, Ok, Err, inl, inr, refl, sym, ap, arith, leb, length-append}
use Rattle.std.proofs.lemmas.Bool.{cases_Bool, leb-true, le-leb}
use Rattle.cert_lines.specs.Lines.{Lines, tail, line, lines_of, with_byte, feeds}
use Rattle.cert_lines.specs.Limits.{within_limits}
use Rattle.cert_lines.specs.declared.lines.TheConstants.{MAX_LINES, MAX_LINE_BYTES}
use Rattle.cert_lines.specs.declared.faults.CertError.{CertError}
use Rattle.cert_lines.specs.declared.faults.CertError.TheVariants.{Truncated}

-- the lines of two texts, one after the other
abbrev pub followed_by : Lines → Lines → Lines
followed_by (tail bytes) (tail more) = tail (bytes ++ more)
followed_by (tail bytes) (line text more) = line (bytes ++ text) more
followed_by (line text rest) more = line text (followed_by rest more)

followed_by-with_byte : (b : ℕ) (ls ms : Lines) → followed_by (with_byte b ls) ms ≡ with_byte b (followed_by ls ms)
followed_by-with_byte b (tail bytes) (tail more) = refl
followed_by-with_byte b (tail bytes) (line text more) = refl
followed_by-with_byte b (line text rest) more = refl

followed_by-nothing : (ms : Lines) → followed_by (tail []) ms ≡ ms
followed_by-nothing (tail more) = refl
followed_by-nothing (line text more) = refl

pub lines_of-append : (xs ys : List ℕ) → lines_of (xs ++ ys) ≡ followed_by (lines_of xs) (lines_of ys)
lines_of-append [] ys = sym (followed_by-nothing (lines_of ys))
lines_of-append (x ∷ xs) ys = elim (cases_Bool (x == 10)) [
  | inl e ↦ rw (e, lines_of-append xs ys) refl
  | inr e ↦ rw (e, lines_of-append xs ys) (sym (followed_by-with_byte x (lines_of xs) (lines_of ys)))
]

-- how many lines are whole
abbrev pub whole : Lines → ℕ
whole (tail bytes) = 0
whole (line text more) = 1 + whole more

whole-with_byte : (b : ℕ) (ls : Lines) → whole (with_byte b ls) ≡ whole ls
whole-with_byte b (tail bytes) = refl
whole-with_byte b (line text more) = refl

pub whole-lines_of : (bytes : List ℕ) → whole (lines_of bytes) ≡ feeds bytes
whole-lines_of [] = refl
whole-lines_of (b ∷ bytes) = elim (cases_Bool (b == 10)) [
  | inl e ↦ rw e (ap (λ n. 1 + n) (whole-lines_of bytes))
  | inr e ↦ rw (e, whole-with_byte b (lines_of bytes), whole-lines_of bytes) (omega arith)
]

-- some bytes
abbrev pub IsSomething : Lines → Type 0
IsSomething (tail []) = ⊥
IsSomething (tail (b ∷ bytes)) = Unit {0}
IsSomething (line text more) = Unit {0}

with_byte-something : (b : ℕ) (ls : Lines) → IsSomething (with_byte b ls)
with_byte-something b (tail bytes) = tt
with_byte-something b (line text more) = tt

pub something : (b : ℕ) (bytes : List ℕ) → IsSomething (lines_of (b ∷ bytes))
something b bytes = elim (cases_Bool (b == 10)) [
  | inl e ↦ rw e tt
  | inr e ↦ rw e (with_byte-something b (lines_of bytes))
]

-- what passes the limits does so with less of its line, and is then missed
pub cut_in_line : {A B : Type 0} (l : ℕ) (front text : List ℕ) (r : Result A CertError) (a : A) → within_limits l (front ++ text) r ≡ Ok a → within_limits {A = B} l front (Err (Truncated l)) ≡ Err (Truncated l)
cut_in_line l front text r a h = elim (cases_Bool (leb l MAX_LINES)) [
  | inr many ↦ let k = rw many at h in absurd cc
  | inl few ↦ elim (cases_Bool (leb (length (front ++ text)) MAX_LINE_BYTES)) [
    | inr long ↦ let k = rw (few, long) at h in absurd cc
    | inl short ↦
        let le = leb-true (length (front ++ text)) MAX_LINE_BYTES short in
        let less : length front ≤ MAX_LINE_BYTES = omega (arith, length-append front text) in
        rw (few, le-leb (length front) MAX_LINE_BYTES less) refl
  ]
]

pub limits_passed : {A : Type 0} (l : ℕ) (text : List ℕ) (r : Result A CertError) (a : A) → within_limits l text r ≡ Ok a → r ≡ Ok a
limits_passed l text r a h = elim (cases_Bool (leb l MAX_LINES)) [
  | inr many ↦ let k = rw many at h in absurd cc
  | inl few ↦ elim (cases_Bool (leb (length text) MAX_LINE_BYTES)) [
    | inr long ↦ let k = rw (few, long) at h in absurd cc
    | inl short ↦ rw (few, short) at h
  ]
]

pub limits_kept : {A B : Type 0} (l : ℕ) (text : List ℕ) (r : Result A CertError) (a : A) (s : Result B CertError) → within_limits l text r ≡ Ok a → within_limits l text s ≡ s
limits_kept l text r a s h = elim (cases_Bool (leb l MAX_LINES)) [
  | inr many ↦ let k = rw many at h in absurd cc
  | inl few ↦ elim (cases_Bool (leb (length text) MAX_LINE_BYTES)) [
    | inr long ↦ let k = rw (few, long) at h in absurd cc
    | inl short ↦ rw (few, short) refl
  ]
]
