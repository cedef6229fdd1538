-- Circuits whose inputs stand in one order at each gate, and the order.
use Rattle.std.specs.Prelude.{if◌then◌else◌}
use Rattle.std.specs.declared.cmp.Ordering.{Ordering}
use Rattle.std.specs.declared.cmp.Ordering.TheVariants.{Less, Equal, Greater}
use Rattle.std.specs.Ordering.{nat_cmp, ordering_then, is_gt}
use Rattle.threshold_circuit.specs.Circuits.{Circuit, Inputs, always, never, leaf, at_least, end_of_gate, input}

abbrev mutual
  -- `always`, `never`, the nodes by their numbers, then the gates by their thresholds, and those of equal thresholds by
  -- their inputs, the first that differ first
  pub compared : Circuit → Circuit → Ordering
  compared always always = Equal
  compared always never = Less
  compared always (leaf w) = Less
  compared always (at_least j others) = Less
  compared never always = Greater
  compared never never = Equal
  compared never (leaf w) = Less
  compared never (at_least j others) = Less
  compared (leaf v) always = Greater
  compared (leaf v) never = Greater
  compared (leaf v) (leaf w) = nat_cmp v w
  compared (leaf v) (at_least j others) = Less
  compared (at_least k inputs) always = Greater
  compared (at_least k inputs) never = Greater
  compared (at_least k inputs) (leaf w) = Greater
  compared (at_least k inputs) (at_least j others) = ordering_then (nat_cmp k j) (compared_inputs inputs others)

  pub compared_inputs : Inputs → Inputs → Ordering
  compared_inputs end_of_gate end_of_gate = Equal
  compared_inputs end_of_gate (input d ds) = Less
  compared_inputs (input c cs) end_of_gate = Greater
  compared_inputs (input c cs) (input d ds) = ordering_then (compared c d) (compared_inputs cs ds)

-- one input more, before the first that it is not above
abbrev pub inserted : Circuit → Inputs → Inputs
inserted c end_of_gate = input c end_of_gate
inserted c (input d ds) = if is_gt (compared c d) then input d (inserted c ds) else input c (input d ds)

-- the inputs in order
abbrev pub in_order : Inputs → Inputs
in_order end_of_gate = end_of_gate
in_order (input c cs) = inserted c (in_order cs)

abbrev mutual
  -- the inputs of each gate in order, those of the gates among them first
  pub ordered : Circuit → Circuit
  ordered always = always
  ordered never = never
  ordered (leaf v) = leaf v
  ordered (at_least k inputs) = at_least k (in_order (each_ordered inputs))

  pub each_ordered : Inputs → Inputs
  each_ordered end_of_gate = end_of_gate
  each_ordered (input c cs) = input (ordered c) (each_ordered cs)
