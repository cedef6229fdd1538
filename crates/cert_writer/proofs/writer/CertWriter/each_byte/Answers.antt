use Rattle.std.proofs.Common.{sym}
use Rattle.std.proofs.lemmas.List.{take_more, take_all}
use Rattle.cert_writer.proofs.WritingLaws.{writes_more, writes_same, writes_nothing}
use Rattle.cert_writer.proofs.writer.CertWriter.each_byte.Goals as goal

pub loop-byte-init : goal.loop-byte-init
loop-byte-init g c = writes_nothing _ _ _ _

pub loop-byte-preserved : goal.loop-byte-preserved
loop-byte-preserved g c =
    writes_same _ _ _ _ _ _ _ _ _ (sym (take_more c.args.text.now c.loop-byte.byte-index 0 c.loop-byte-test.true)) (writes_more _ _ _ _ _ _ _ _ _ _ _ _ c.loop-byte.invariant c.byte.ensures)

pub returns : goal.returns
returns g c = writes_same _ _ _ _ _ _ _ _ _ (take_all c.loop-byte.byte-index c.args.text.now c.loop-byte-test.false) c.loop-byte.invariant
