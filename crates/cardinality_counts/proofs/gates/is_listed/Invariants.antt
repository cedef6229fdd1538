use Rattle.std.proofs.Common.{◌≡◌, ℕ, ◌<◌, true, take}
use Rattle.cardinality_counts.specs.Gates.{has_number}
use Rattle.cardinality_counts.specs.Counts.{times, part_of}
use Rattle.cardinality_counts.proofs.gates.is_listed.Given as goal

abbrev pub invariant-loop-input : goal.invariant-loop-input
invariant-loop-input l = (x : ℕ) → has_number (take l.input-index l.inputs) x ≡ true → 0 < times (part_of l.starts l.entries x) l.number
