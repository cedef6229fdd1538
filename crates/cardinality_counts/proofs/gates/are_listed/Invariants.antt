use Rattle.std.proofs.Common.{◌≡◌, ℕ, ◌<◌, true, length}
use Rattle.std.specs.Prelude.{slice_index_or}
use Rattle.cardinality_counts.specs.declared.gate.Gate.{Gate}
use Rattle.cardinality_counts.specs.Gates.{has_number}
use Rattle.cardinality_counts.specs.Counts.{times, part_of}
use Rattle.cardinality_counts.proofs.gates.are_listed.Given as goal

abbrev pub invariant-loop-place : goal.invariant-loop-place
invariant-loop-place l = (g x : ℕ) → g < l.place → g < length l.gates → ((d : Gate) → has_number (slice_index_or l.gates g d).inputs.items x ≡ true) → 0 < times (part_of l.starts l.entries x) g
