-- Gates that are known without a look-up, by the kinds of circuits.
use Rattle.std.specs.Prelude.{◌≡◌, ℕ, List, Option, Some, None, slice_index_or}
use Rattle.threshold_circuit.specs.Circuits.{Circuit, always, never, leaf, at_least}
use Rattle.clause_encoder.specs.CircuitClauses.{Gate, variable_among}
use Rattle.clause_encoder.specs.Written.{CircuitTable, circuit_of_kind}

abbrev pub IsGate : Circuit → Type 0
IsGate always = ⊥
IsGate never = ⊥
IsGate (leaf v) = ⊥
IsGate (at_least k inputs) = Unit {0}

-- the circuit is one of the gates, and has this variable
pub record HasGate (gates : List Gate) (c : Circuit) (x : ℕ) : Type 0 where
  pub gate : IsGate c
  pub among : variable_among gates c ≡ Some x

-- a variable that is known of a kind is that of its gate
abbrev pub AreKnown : List Gate → CircuitTable → List (Option ℕ) → Type 0
AreKnown gates circuits known = (k x : ℕ) → slice_index_or known k None ≡ Some x → HasGate gates (circuit_of_kind circuits k) x
