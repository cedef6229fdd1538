use Rattle.std.proofs.Common.{◌≡◌, ◌-◌, length}
use Rattle.cardinality_counts.specs.Counts.{IsCounting}
use Rattle.cardinality_counts.proofs.gates.Gates.count.Given as goal

abbrev pub decreases-loop-self : goal.decreases-loop-self
decreases-loop-self l = length l.trail - l.self.counted

abbrev pub invariant-loop-self : goal.invariant-loop-self
invariant-loop-self l = record {
  counting : IsCounting l.self l.trail;
  gates : l.self.gates ≡ l.initial.self.gates;
  vars : l.self.vars ≡ l.initial.self.vars;
}
