-- The value of a circuit where the nodes of a set are present.
use Rattle.std.specs.Prelude.{ℕ, ◌+◌, Bool, true, false, nat_le, if◌then◌else◌}
use Rattle.fbas_model.specs.Nodes.{Nodes}
use Rattle.threshold_circuit.specs.Circuits.{Circuit, Inputs, always, never, leaf, at_least, end_of_gate, input}

abbrev mutual
  pub circuit_value : Nodes → Circuit → Bool
  circuit_value u always = true
  circuit_value u never = false
  circuit_value u (leaf v) = u v
  circuit_value u (at_least k inputs) = nat_le k (count_true u inputs)

  -- how many inputs are true
  pub count_true : Nodes → Inputs → ℕ
  count_true u end_of_gate = 0
  count_true u (input c others) = (if circuit_value u c then 1 else 0) + count_true u others
