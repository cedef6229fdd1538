use Rattle.std.proofs.Common.{◌++◌, ◌∷◌, ◌+◌, drop, decimal, slice_index_or}
use Rattle.std.proofs.lemmas.List.{at_drop_more}
use Rattle.printed_lines.specs.Lines.{dotted}
use Rattle.printed_lines.proofs.Lists.{grown}
use Rattle.printed_lines.proofs.findings.push_dotted.Goals as goal

pub loop-at-preserved : goal.loop-at-preserved
loop-at-preserved c =
    let path = c.args.path.now in
    let i = c.loop-at.at-index in
    rw c.in_ok-push_step.ensures (grown c.loop-at.text.items (46 ∷ decimal (slice_index_or path i 0)) (dotted (drop (i + 1) path)) (dotted (drop i path)) (c.args.text.now.items ++ dotted path) (at_drop_more dotted path i 0 c.loop-at-test.true) c.loop-at.invariant)
