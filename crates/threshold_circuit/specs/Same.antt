-- Equal circuits.
use Rattle.std.specs.Prelude.{Bool, true, false, ◌==◌, ◌&&◌}
use Rattle.threshold_circuit.specs.Circuits.{Circuit, Inputs, always, never, leaf, at_least, end_of_gate, input}

abbrev mutual
  -- equal thresholds, and equal inputs in order
  pub same_circuit : Circuit → Circuit → Bool
  same_circuit always always = true
  same_circuit always never = false
  same_circuit always (leaf w) = false
  same_circuit always (at_least k inputs) = false
  same_circuit never always = false
  same_circuit never never = true
  same_circuit never (leaf w) = false
  same_circuit never (at_least k inputs) = false
  same_circuit (leaf v) always = false
  same_circuit (leaf v) never = false
  same_circuit (leaf v) (leaf w) = v == w
  same_circuit (leaf v) (at_least k inputs) = false
  same_circuit (at_least k inputs) always = false
  same_circuit (at_least k inputs) never = false
  same_circuit (at_least k inputs) (leaf w) = false
  same_circuit (at_least k inputs) (at_least j others) = (k == j) && same_inputs inputs others

  pub same_inputs : Inputs → Inputs → Bool
  same_inputs end_of_gate end_of_gate = true
  same_inputs end_of_gate (input d ds) = false
  same_inputs (input c cs) end_of_gate = false
  same_inputs (input c cs) (input d ds) = same_circuit c d && same_inputs cs ds
