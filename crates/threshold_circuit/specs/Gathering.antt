-- Inputs that are gathered list by list.
use Rattle.threshold_circuit.specs.Circuits.{Inputs, end_of_gate, input}

-- inputs, and others after them
abbrev pub joined : Inputs → Inputs → Inputs
joined end_of_gate others = others
joined (input c cs) others = input c (joined cs others)
