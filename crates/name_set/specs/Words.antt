-- A set of numbers as words of 64 bits: the number v is bit v % 64 of word v / 64.
use Rattle.std.specs.Prelude.{◌≡◌, ◌≢◌, ℕ, ◌<◌, ◌+◌, ◌*◌, ◌/◌, ◌%◌, ◌^◌, ◌≤◌, ◌==◌, true, false, List, slice_index}
use Rattle.std.specs.Int.{bit_at}
use Rattle.fbas_model.specs.Nodes.{Nodes, Table, ◌∈◌}
use Rattle.fbas_model.specs.Restriction.{table_from}
use Rattle.name_set.specs.declared.words.TheConstants.{MOST_WORDS}

-- whether a bit of a word is set
abbrev pub bit : ℕ → Nodes
bit word i = bit_at word i == 1

-- the set of the numbers whose bits are set
unfoldable pub set_of : List ℕ → Nodes
set_of words v = bit (slice_index words (v / 64)) (v % 64)

-- those of them that are below n
unfoldable pub table_of : ℕ → List ℕ → Table
table_of n words = table_from 0 n (set_of words)

-- this many words have room for the bits of the numbers below n, and no other bit is set
pub record AreWordsOf (size n : ℕ) (words : List ℕ) : Type 0 where
  pub fits : n ≤ 64 * size
  pub few : size ≤ MOST_WORDS
  pub clear : (v : ℕ) → n ≤ v → set_of words v ≡ false

-- what is left of the word at a place: the bits of the numbers from one on, which stands in the word or right after it
pub record IsRest (s : Nodes) (at from rest : ℕ) : Type 0 where
  pub reached : 64 * at ≤ from
  pub within : from ≤ 64 * at + 64
  pub each : (j : ℕ) → j < 64 → bit rest j ≡ true → (from ≤ 64 * at + j) × (64 * at + j) ∈ s
  pub all : (v : ℕ) → from ≤ v → v < 64 * at + 64 → v ∈ s → bit rest (v % 64) ≡ true

-- the rest of a word that is not 0, before which stand no members but those that were given
pub record IsFirst (s : Nodes) (from at rest : ℕ) : Type 0 where
  pub low : ℕ
  pub after : from ≤ low
  pub none : (v : ℕ) → from ≤ v → v < low → v ∈ s → ⊥
  pub some : rest ≡ 0 → ⊥
  pub fits : rest < 2 ^ 64
  pub is_rest : IsRest s at low rest

-- the sets have the same numbers below one that stands in one of them alone
pub record PartAt (s t : Nodes) (at : ℕ) : Type 0 where
  pub same : (v : ℕ) → v < at → s v ≡ t v
  pub apart : s at ≢ t at
