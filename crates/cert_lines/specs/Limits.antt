-- The next of the lines that are left, within the limits on their number and their length.
use Rattle.std.specs.Prelude.{ℕ, List, length, Bool, true, false, nat_le, Result, Ok, Err}
use Rattle.cert_lines.specs.Lines.{Lines, tail, line}
use Rattle.cert_lines.specs.declared.lines.TheConstants.{MAX_LINES, MAX_LINE_BYTES}
use Rattle.cert_lines.specs.declared.faults.CertError.{CertError}
use Rattle.cert_lines.specs.declared.faults.CertError.TheVariants.{LineTooLong, TooManyLines, Truncated}

-- the result where the test passes, or else the fault
abbrev pub unless : {A : Type 0} → CertError → Bool → Result A CertError → Result A CertError
unless e true r = r
unless e false r = Err e

-- a line, or the start of one, that is not one line too many and not too long
abbrev pub within_limits : {A : Type 0} → ℕ → List ℕ → Result A CertError → Result A CertError
within_limits l text r = unless TooManyLines (nat_le l MAX_LINES) (unless (LineTooLong l) (nat_le (length text) MAX_LINE_BYTES) r)

-- the bytes that were read and belong to lines not taken yet, the number of the next line, how many bytes of it were taken, and
-- the part of a line that was taken last
pub record Unread : Type 0 where
  pub unread : List ℕ
  pub number : ℕ
  pub taken : ℕ
  pub part : List ℕ

-- a line, and what follows it
pub record Taken : Type 0 where
  pub text : List ℕ
  pub more : Lines

-- the next line, whose number is l, or its fault
abbrev pub next_line : ℕ → Lines → Result Taken CertError
next_line l (tail bytes) = within_limits l bytes (Err (Truncated l))
next_line l (line text more) = within_limits l text (Ok (record { text = text; more = more }))
