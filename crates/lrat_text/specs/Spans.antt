-- Where numbers stand that were put after others.
use Rattle.std.specs.Prelude.{◌≡◌, ℕ, List, ◌++◌, length, map, ℤ, pos}
use Rattle.lrat_text.specs.declared.arena.Span.{Span}

-- the list begins with the other
abbrev pub IsFront : {A : Type 0} → List A → List A → Type 0
IsFront {A} old new = (more : List A) × (new ≡ old ++ more)

-- the items were put after the others, and stand there
abbrev pub IsPushed : {A : Type 0} → List A → List A → List A → Span → Type 0
IsPushed old new items span = (new ≡ old ++ items) × (span.start ≡ length old) × (span.end ≡ length new)

-- and so were hints, as ids
abbrev pub IsPushedShort : List ℕ → List ℕ → List ℤ → Span → Type 0
IsPushedShort old new hints span = (ids : List ℕ) × (map pos ids ≡ hints) × (new ≡ old ++ ids) × (span.start ≡ length old) × (span.end ≡ length new)
