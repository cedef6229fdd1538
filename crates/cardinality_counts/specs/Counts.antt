-- How many inputs of each gate are false.
use Rattle.std.specs.Prelude.{◌≡◌, ℕ, ◌+◌, ◌-◌, ◌<◌, ◌≤◌, ◌^◌, ◌==◌, true, List, [], ◌∷◌, length, filter, take, drop, slice_index, slice_index_or, All}
use Rattle.lrat_model.specs.Literal.{Literal, Plus, Minus}
use Rattle.cardinality_counts.specs.declared.gate.Gate.{Gate}
use Rattle.cardinality_counts.specs.declared.gates.Gates.{Gates}
use Rattle.cardinality_counts.specs.Gates.{IsGate, has_number}

-- how often a gate is named
abbrev pub times : List ℕ → ℕ → ℕ
times list g = length (filter (λ k. k == g) list)

-- the entries of a variable: from its start up to that of the next
abbrev pub part_of : List ℕ → List ℕ → ℕ → List ℕ
part_of starts entries x = take (slice_index starts (x + 1) - slice_index starts x) (drop (slice_index starts x) entries)

-- how often a gate is named by the variables that a trail has false
abbrev pub tally : List ℕ → List ℕ → List Literal → ℕ → ℕ
tally starts entries [] g = 0
tally starts entries (Plus x ∷ trail) g = tally starts entries trail g
tally starts entries (Minus x ∷ trail) g = times (part_of starts entries x) g + tally starts entries trail g

-- each input of a gate names it
abbrev pub AreListed : List ℕ → List ℕ → List Gate → Type 0
AreListed starts entries gates = (g x : ℕ) → g < length gates → ((d : Gate) → has_number (slice_index_or gates g d).inputs.items x ≡ true) → 0 < times (part_of starts entries x) g

-- of each gate it is counted how often the first literals of the trail, up to `counted`, make an input false
pub record IsCounting (gates : Gates) (trail : List Literal) : Type 0 where
  pub small : gates.vars < 2 ^ 31
  pub sound : All (IsGate gates.vars) gates.gates.items
  pub listed : AreListed gates.starts.items gates.entries.items gates.gates.items
  pub long : length gates.counts.items ≡ length gates.gates.items
  pub within : gates.counted ≤ length trail
  pub tallied : (g : ℕ) → g < length gates.counts.items → slice_index gates.counts.items g ≡ tally gates.starts.items gates.entries.items (take gates.counted trail) g
