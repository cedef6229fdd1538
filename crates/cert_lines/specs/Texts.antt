-- The lines of a text whose last line may lack its line feed.
use Rattle.std.specs.Prelude.{◌≡◌, ℕ, List, [], ◌∷◌, Option, Some, None, Result, Ok, Err}
use Rattle.cert_lines.specs.Lines.{Lines, tail, line, lines_of}
use Rattle.cert_lines.specs.Limits.{within_limits, next_line}
use Rattle.cert_lines.specs.declared.faults.CertError.{CertError}

-- the lines, and the bytes that no line feed follows, where there are any
abbrev pub texts_in : Lines → List (List ℕ)
texts_in (tail []) = []
texts_in (tail (b ∷ bytes)) = (b ∷ bytes) ∷ []
texts_in (line text more) = text ∷ texts_in more

abbrev pub texts_of : List ℕ → List (List ℕ)
texts_of bytes = texts_in (lines_of bytes)

-- a line, and those that follow it
pub record Text : Type 0 where
  pub text : List ℕ
  pub more : List (List ℕ)

-- the next line, whose number is l, or None where none is left, or the fault of its number or its length
abbrev pub next_text : ℕ → List (List ℕ) → Result (Option Text) CertError
next_text l [] = Ok None
next_text l (text ∷ more) = within_limits l text (Ok (Some (record { text = text; more = more })))

-- line l has this fault, whether it may lack its line feed or not
pub record IsTooLong (l : ℕ) (ls : Lines) (e : CertError) : Type 0 where
  pub line : next_line l ls ≡ Err e
  pub text : next_text l (texts_in ls) ≡ Err e
