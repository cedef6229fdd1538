-- The tree that a circuit of the program shows.
use Rattle.std.specs.Prelude.{List, [], ◌∷◌}
use Rattle.threshold_circuit.specs.declared.Circuit.{Circuit, Always, Never, Node, AtLeast', Row_of-Circuit, end_of-Circuit, more_of-Circuit}
use Rattle.threshold_circuit.specs.Circuits as Circuits
use Rattle.threshold_circuit.specs.Circuits.{Inputs, always, never, leaf, at_least, end_of_gate, input}

abbrev mutual
  pub circuit_view : Circuit → Circuits.Circuit
  circuit_view Always = always
  circuit_view Never = never
  circuit_view (Node v) = leaf v
  circuit_view (AtLeast' k shape row) = at_least k (row_view row)

  pub row_view : {m : _} → Row_of-Circuit m → Inputs
  row_view end_of-Circuit = end_of_gate
  row_view (more_of-Circuit c rest) = input (circuit_view c) (row_view rest)

-- the same of a list
abbrev pub inputs_view : List Circuit → Inputs
inputs_view [] = end_of_gate
inputs_view (c ∷ cs) = input (circuit_view c) (inputs_view cs)
