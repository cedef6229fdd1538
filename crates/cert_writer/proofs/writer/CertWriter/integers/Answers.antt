use Rattle.std.proofs.Common.{List, map, ap}
use Rattle.std.proofs.lemmas.List.{take_all}
use Rattle.lrat_text.specs.Left.{spaced}
use Rattle.cert_writer.proofs.WritingLaws.{writes_more, writes_same, writes_nothing}
use Rattle.cert_writer.proofs.StepTexts.{numbers_more}
use Rattle.cert_writer.proofs.writer.CertWriter.integers.Goals as goal

pub loop-number-init : goal.loop-number-init
loop-number-init g c = writes_nothing _ _ _ _

pub loop-number-preserved : goal.loop-number-preserved
loop-number-preserved g c =
    writes_same _ _ _ _ _ _ _ _ _ (numbers_more g.I.Integer.text c.args.numbers.now c.loop-number.number-index c.number-item.result c.number-item.is c.loop-number-test.true) (writes_more _ _ _ _ _ _ _ _ _ _ _ _ c.loop-number.invariant c.integer.ensures)

pub returns : goal.returns
returns g c = writes_same _ _ _ _ _ _ _ _ _ (ap (λ (xs : List _). spaced (map g.I.Integer.text xs)) (take_all c.loop-number.number-index c.args.numbers.now c.loop-number-test.false)) c.loop-number.invariant
