use Rattle.std.proofs.Common.{ap}
use Rattle.threshold_circuit.specs.Circuits.{at_least}
use Rattle.threshold_circuit.proofs.PermutedLaws.{swapped, deeper}
use Rattle.threshold_circuit.proofs.OrderedLaws.{ordered_value, ordered_reduced, ordered_below, ordered_thresholds, ordered_inputs, ordered_gates}
use Rattle.threshold_circuit.proofs.OrderLaws.{is_total, equal_is}
use Rattle.threshold_circuit.proofs.a_circuit_in_order_is_as_good.Goals as goal

pub returns-clause-value : goal.returns-clause-value
returns-clause-value c u d = ordered_value u d

pub returns-clause-reduced : goal.returns-clause-reduced
returns-clause-reduced c nodes d h = ordered_reduced nodes d h

pub returns-clause-below : goal.returns-clause-below
returns-clause-below c n d h = ordered_below n d h

pub returns-clause-thresholds : goal.returns-clause-thresholds
returns-clause-thresholds c d h = ordered_thresholds d h

pub returns-clause-inputs : goal.returns-clause-inputs
returns-clause-inputs c d = ordered_inputs d

pub returns-clause-gates : goal.returns-clause-gates
returns-clause-gates c d = ordered_gates d

pub returns-clause-order : goal.returns-clause-order
returns-clause-order c = is_total

pub returns-clause-different : goal.returns-clause-different
returns-clause-different c d e h = equal_is d e h

pub returns-clause-swapped : goal.returns-clause-swapped
returns-clause-swapped c k before after d e = ap (at_least k) (swapped k before d e after)

pub returns-clause-deep : goal.returns-clause-deep
returns-clause-deep c k before after d e same = ap (at_least k) (deeper before d e after same)
