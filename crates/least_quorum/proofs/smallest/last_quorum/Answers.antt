use Rattle.std.proofs.Common.{◌∙◌, sym, ap, Some, None}
use Rattle.std.proofs.lemmas.Bool.{both_ways}
use Rattle.least_quorum.proofs.LastLaws.{last_more, last_same}
use Rattle.least_quorum.proofs.smallest.last_quorum.Goals as goal
use Rattle.least_quorum.proofs.smallest.last_quorum.Goals.{then-is_smaller, else-is_smaller}

pub loop-line-preserved : goal.loop-line-preserved
loop-line-preserved c =
    let lines = c.args.listed.now in
    let i = c.loop-line.line-index in
    let line = c.line-item.result in
    elim c.if-is_smaller.branch [
      | then-is_smaller w ↦ rw w.last-is (ap Some (w.copy.ensures ∙ w.set.ensures) ∙ sym (last_more None lines i line c.loop-line-test.true c.line-item.is (sym c.which.ensures ∙ c.is_smaller.ensures.only_then w.if-is_smaller.true)))
      | else-is_smaller w ↦ rw w.last-is (c.loop-line.invariant ∙ sym (last_same None lines i line c.loop-line-test.true c.line-item.is (λ e. both_ways c.is_smaller.result w.if-is_smaller.false (c.is_smaller.ensures.always (c.which.ensures ∙ e)))))
    ]
