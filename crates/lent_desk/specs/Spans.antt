-- The files that were made, as parts of what is kept.
use Rattle.std.specs.Prelude.{◌≡◌, ℕ, ◌≤◌, List, Option, Some, None}
use Rattle.std.specs.List.{slice_range}
use Rattle.std.specs.Option.{ForSome}
use Rattle.desk_io.specs.State.{Files}
use Rattle.lent_desk.specs.declared.files.File.{File}
use Rattle.lent_desk.specs.declared.files.File.TheVariants.{Config, Orgs, Script, Cert, Made}
use Rattle.lent_desk.specs.declared.files.LentFiles.{LentFiles}
use Rattle.lent_desk.specs.Files.{file_named, lent_by, found}
use Rattle.lent_desk.specs.declared.spans.Span.{Span}
use Rattle.lent_desk.specs.declared.spans.Spans.{Spans}
use Rattle.lent_desk.specs.declared.spans.Open.{Open}

-- the bytes that stand there
abbrev pub slice_in : Span → List ℕ → List ℕ
slice_in s kept = slice_range kept s.from s.to

-- it lies within so many bytes
abbrev pub Fits : ℕ → Span → Type 0
Fits kept s = (s.from ≤ s.to) × (s.to ≤ kept)

abbrev pub span_at : File → Spans → Option Span
span_at Config s = s.config
span_at Orgs s = s.orgs
span_at Script s = s.script
span_at Cert s = s.cert
span_at Made s = s.made

abbrev pub with_span : File → Span → Spans → Spans
with_span Config span s = record s { config = Some span }
with_span Orgs span s = record s { orgs = Some span }
with_span Script span s = record s { script = Some span }
with_span Cert span s = record s { cert = Some span }
with_span Made span s = record s { made = Some span }

-- each lies within so many bytes
abbrev pub FitAll : ℕ → Spans → Type 0
FitAll kept s = (file : File) → ForSome (span_at file s) (Fits kept)

-- the open file ends where what is kept ends
abbrev pub IsOpen : ℕ → Spans → Open → Type 0
IsOpen kept s opened = span_at opened.file s ≡ Some (record { from = opened.from; to = kept })

-- what a file holds that stands there, or is lent
abbrev pub held_by : Option Span → Option (List ℕ) → List ℕ → Option (List ℕ)
held_by None lent kept = lent
held_by (Some span) lent kept = Some (slice_in span kept)

abbrev pub held_in : LentFiles → Spans → List ℕ → File → Option (List ℕ)
held_in lent spans kept file = held_by (span_at file spans) (lent_by lent file) kept

-- the files by name, over what is kept
abbrev pub files_in : LentFiles → Spans → List ℕ → Files
files_in lent spans kept = λ name. found (held_in lent spans kept) (file_named name)
