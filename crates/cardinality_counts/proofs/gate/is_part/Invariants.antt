use Rattle.std.proofs.Common.{◌≡◌, ◌≤◌, true, length, drop}
use Rattle.cardinality_counts.specs.Gates.{is_part}
use Rattle.cardinality_counts.proofs.gate.is_part.Given as goal

abbrev pub invariant-loop-input : goal.invariant-loop-input
invariant-loop-input l = record {
  within : l.done ≤ length l.lits;
  rest : is_part (drop l.done l.lits) (drop l.input-index l.inputs) ≡ true → is_part l.lits l.inputs ≡ true;
}
