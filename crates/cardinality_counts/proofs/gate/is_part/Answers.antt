use Rattle.std.proofs.Common.{◌≡◌, true, ◌+◌, arith, drop, subst}
use Rattle.cardinality_counts.specs.Gates.{is_part}
use Rattle.cardinality_counts.proofs.InOrder.{skip_step, take_step}
use Rattle.cardinality_counts.proofs.gate.is_part.Goals as goal
use Rattle.cardinality_counts.proofs.gate.is_part.Goals.{then-done-lits+then-is_plus, else-done-lits}

pub loop-input-preserved : goal.loop-input-preserved
loop-input-preserved c =
    let lits = c.args.lits.now in
    let inputs = c.args.inputs.now in
    let l = c.loop-input in
    elim c.if-done-lits.branch [
      | then-done-lits+then-is_plus w ↦ record {
        within = omega arith;
        rest = λ is. take_step lits inputs l.done l.input-index c.loop-input-test.true w.if-done-lits.true w.index-lits-done.result w.index-lits-done.is (w.is_plus.ensures w.if-is_plus.true) l.invariant.rest (subst (λ k. is_part (drop k lits) (drop (l.input-index + 1) inputs) ≡ true) w.done-is is);
      }
      | else-done-lits w ↦ record {
        within = omega arith;
        rest = λ is. skip_step lits inputs l.done l.input-index c.loop-input-test.true l.invariant.rest (subst (λ k. is_part (drop k lits) (drop (l.input-index + 1) inputs) ≡ true) w.done-is is);
      }
    ]
