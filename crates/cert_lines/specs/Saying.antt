-- The size of a formula or of a counter, and the step, that a line says.
use Rattle.std.specs.Prelude.{ℕ, List, [], ◌∷◌, Option, Some, None, Result, Ok, Err, codes, if◌then◌else◌}
use Rattle.std.specs.Str.{bytes_eq}
use Rattle.lrat_model.specs.Steps.{ProofStep}
use Rattle.lrat_text.specs.Numbers.{id_in}
use Rattle.lrat_text.specs.declared.faults.LineFault.{LineFault}
use Rattle.cert_lines.specs.Words.{Word, words_of}
use Rattle.cert_lines.specs.declared.saying.Counts.{Counts}
use Rattle.cert_lines.specs.declared.faults.CertError.{CertError}
use Rattle.cert_lines.specs.declared.faults.CertError.TheVariants.{BadLine}

-- decimal digits without a leading zero, for a number up to 2^63 - 1
abbrev pub number_in : Word → Option ℕ
number_in word = if bytes_eq word (codes "0") then Some 0 else id_in word

abbrev pub counts_if_any : Option ℕ → Option ℕ → Option Counts
counts_if_any (Some vars) (Some clauses) = Some (record { vars = vars; clauses = clauses })
counts_if_any (Some vars) None = None
counts_if_any None clauses = None

-- the two numbers after the word: there may be no variable, but there is some clause
abbrev pub counts_behind : List Word → Option Counts
counts_behind (word ∷ vars ∷ clauses ∷ []) = if bytes_eq word (codes "formula") then counts_if_any (number_in vars) (id_in clauses) else None
counts_behind words = None

-- the numbers after the word `formula`
abbrev pub counts_in : List ℕ → Option Counts
counts_in text = counts_behind (words_of text)

-- the two numbers after the word `counter`: there may be no variable, and no clause
abbrev pub counter_behind : List Word → Option Counts
counter_behind (word ∷ vars ∷ clauses ∷ []) = if bytes_eq word (codes "counter") then counts_if_any (number_in vars) (number_in clauses) else None
counter_behind words = None

abbrev pub counter_in : List ℕ → Option Counts
counter_in text = counter_behind (words_of text)

-- the step of a line, which is bad where it has none
abbrev pub or_bad_line : ℕ → Result ProofStep LineFault → Result ProofStep CertError
or_bad_line l (Ok step) = Ok step
or_bad_line l (Err fault) = Err (BadLine l)
