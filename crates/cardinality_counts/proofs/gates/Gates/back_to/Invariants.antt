use Rattle.std.proofs.Common.{◌≡◌}
use Rattle.cardinality_counts.specs.Counts.{IsCounting}
use Rattle.cardinality_counts.proofs.gates.Gates.back_to.Given as goal

abbrev pub decreases-loop-self : goal.decreases-loop-self
decreases-loop-self l = l.self.counted

abbrev pub invariant-loop-self : goal.invariant-loop-self
invariant-loop-self l = record {
  counting : IsCounting l.self l.trail;
  gates : l.self.gates ≡ l.initial.self.gates;
  vars : l.self.vars ≡ l.initial.self.vars;
}
