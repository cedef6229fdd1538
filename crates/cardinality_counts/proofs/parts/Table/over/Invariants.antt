use Rattle.std.proofs.Common.{◌≤◌, length}
use Rattle.cardinality_counts.proofs.parts.Table.over.Given as goal

abbrev pub invariant-loop-g : goal.invariant-loop-g
invariant-loop-g l = l.g ≤ length l.gates

abbrev pub decreases-loop-g : goal.decreases-loop-g
decreases-loop-g l = l.g
