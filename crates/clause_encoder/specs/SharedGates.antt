-- The gates that are used again, as the code has them, and where their variables are.
use Rattle.std.specs.Prelude.{ℕ, List, [], ◌∷◌, map, ◌≤◌, ◌<◌}
use Rattle.threshold_circuit.specs.declared.Circuit as Rust
use Rattle.threshold_circuit.specs.Circuits.{Circuit}
use Rattle.threshold_circuit.specs.Views.{circuit_view}
use Rattle.clause_encoder.specs.declared.shared_gates.SharedGates.{SharedGates}
use Rattle.clause_encoder.specs.CircuitClauses.{Gate, Place}

abbrev pub gates_of : List (Rust.Circuit × ℕ) → List Gate
gates_of entries = map (λ e. record { circuit = circuit_view e.0; variable = e.1 }) entries

abbrev pub gates_in : SharedGates → List Gate
gates_in s = gates_of s.gates.entries

-- the place of a first free variable and these gates
abbrev pub place_of : ℕ → SharedGates → Place
place_of next shared = record { next = next; gates = gates_in shared }

-- P of each gate
abbrev pub EachGate : (Circuit → ℕ → Type 0) → List Gate → Type 0
EachGate P [] = Unit {0}
EachGate P (g ∷ gates) = P g.circuit g.variable × EachGate P gates

-- a variable from 1 on, below this one
abbrev pub IsLow : ℕ → Circuit → ℕ → Type 0
IsLow next c x = (1 ≤ x) × (x < next)

abbrev pub AreLow : ℕ → List Gate → Type 0
AreLow next gates = EachGate (IsLow next) gates
