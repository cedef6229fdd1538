use Rattle.std.proofs.Common.{◌+◌, ◌*◌, ℕ, min, ap, ◌∙◌}
use Rattle.whatif_session.proofs.LineLaws.{capped_more}
use Rattle.whatif_session.proofs.numbers.capped.Goals as goal

pub loop-byte-preserved : goal.loop-byte-preserved
loop-byte-preserved c =
    c.min-number.ensures ∙ ap (λ (d : ℕ). min (c.loop-byte.number * 10 + d) c.args.most) c.from.ensures ∙ capped_more c.args.word.now c.loop-byte.byte-index c.loop-byte.number c.args.most c.loop-byte-test.true c.requires.digits c.loop-byte.invariant
