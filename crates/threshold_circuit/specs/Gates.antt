-- How many variables stand for the gates of a circuit in its clauses.
use Rattle.std.specs.Prelude.{ℕ, zero, suc, ◌+◌, ◌==◌, min, if◌then◌else◌}
use Rattle.threshold_circuit.specs.Circuits.{Circuit, Inputs, always, never, leaf, at_least, end_of_gate, input, input_count}

-- how many variables of a sequential counter (Sinz 2005) up to k stand before its row i: row i has min(i, k) of them
abbrev pub before_row : ℕ → ℕ → ℕ
before_row k zero = 0
before_row k (suc i) = before_row k i + min i k

-- how many variables a gate has for itself that wants k of n inputs: one where it wants all or one of them, else those of
-- the counter's rows 1 to n
abbrev pub own_variables : ℕ → ℕ → ℕ
own_variables k n = if k == n then 1 else (if k == 1 then 1 else before_row k (suc n))

abbrev mutual
  -- those of all gates
  pub gate_variables : Circuit → ℕ
  gate_variables always = 0
  gate_variables never = 0
  gate_variables (leaf v) = 0
  gate_variables (at_least k inputs) = gate_variables_of inputs + own_variables k (input_count inputs)

  pub gate_variables_of : Inputs → ℕ
  gate_variables_of end_of_gate = 0
  gate_variables_of (input c others) = gate_variables c + gate_variables_of others
