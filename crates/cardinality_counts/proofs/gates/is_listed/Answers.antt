use Rattle.std.proofs.Common.{ℕ, List, ◌<◌, subst}
use Rattle.cardinality_counts.specs.Counts.{times, part_of}
use Rattle.cardinality_counts.proofs.Listing.{times_some, more_listed}
use Rattle.cardinality_counts.proofs.gates.is_listed.Goals as goal

pub loop-input-preserved : goal.loop-input-preserved
loop-input-preserved c =
    more_listed (λ x. 0 < times (part_of c.args.starts.now c.args.entries.now x) c.args.number) c.args.inputs.now c.loop-input.input-index c.loop-input-test.true c.loop-input.invariant
    (subst (λ (list : List ℕ). 0 < times list c.args.number) c.part.ensures (times_some c.part.result.now c.args.number (c.is_among.ensures.some c.if-not-is_among.false)))
