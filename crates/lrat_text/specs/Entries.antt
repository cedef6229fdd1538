-- What entries of a log say.
use Rattle.std.specs.Prelude.{ℕ, ◌≤◌, List, map, slice_range, ℤ, pos}
use Rattle.lrat_model.specs.Literal.{Literal}
use Rattle.lrat_model.specs.Steps.{ProofStep, Addition, Deletion}
use Rattle.lrat_text.specs.declared.arena.Span.{Span}
use Rattle.lrat_text.specs.declared.entry.Entry.{Entry}
use Rattle.lrat_text.specs.declared.entry.Entry.TheVariants.{Short, Wide, Deletion as Deleted}

-- the items of a span
abbrev pub part : {A : Type 0} → List A → Span → List A
part items span = slice_range items span.start span.end

-- the step of an entry, whose numbers stand in these lists
abbrev pub entry_step : List Literal → List ℕ → List ℤ → List ℕ → Entry → ProofStep
entry_step lits short wide ids (Short id l h) = Addition id (part lits l) (map pos (part short h))
entry_step lits short wide ids (Wide id l h) = Addition id (part lits l) (part wide h)
entry_step lits short wide ids (Deleted id d) = Deletion id (part ids d)

-- the span lies in a list of this size
abbrev pub IsSpan : ℕ → Span → Type 0
IsSpan size span = (span.start ≤ span.end) × (span.end ≤ size)

-- the spans of an entry lie in lists of these sizes
abbrev pub IsInside : ℕ → ℕ → ℕ → ℕ → Entry → Type 0
IsInside lits short wide ids (Short id l h) = IsSpan lits l × IsSpan short h
IsInside lits short wide ids (Wide id l h) = IsSpan lits l × IsSpan wide h
IsInside lits short wide ids (Deleted id d) = IsSpan ids d
