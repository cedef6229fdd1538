use Rattle.cardinality_counts.specs.Gates.{IsGate}
use Rattle.cardinality_counts.proofs.Lists.{AllBefore}
use Rattle.cardinality_counts.proofs.gates.are_sound.Given as goal

abbrev pub invariant-loop-gate : goal.invariant-loop-gate
invariant-loop-gate l = AllBefore (IsGate l.vars) l.gates l.gate-index
