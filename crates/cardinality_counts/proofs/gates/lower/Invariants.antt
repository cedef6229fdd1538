use Rattle.std.proofs.Common.{◌≡◌, ℕ, ◌-◌, ◌<◌, length, take, slice_index}
use Rattle.cardinality_counts.specs.Counts.{times}
use Rattle.cardinality_counts.proofs.gates.lower.Given as goal

abbrev pub invariant-loop-g : goal.invariant-loop-g
invariant-loop-g l = record {
  long : length l.counts ≡ length l.initial.counts;
  lowered : (g : ℕ) → g < length l.initial.counts → slice_index l.counts g ≡ slice_index l.initial.counts g - times (take l.g-index l.list) g;
}
