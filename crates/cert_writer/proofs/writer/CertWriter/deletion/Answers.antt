use Rattle.cert_writer.proofs.WritingLaws.{writes_more, writes_same}
use Rattle.cert_writer.proofs.StepTexts.{deletion_text}
use Rattle.cert_writer.proofs.writer.CertWriter.deletion.Goals as goal

pub returns : goal.returns
returns g c =
    let a = writes_more _ _ _ _ _ _ _ _ _ _ _ _ c.step_id.ensures c.text.ensures in
    let b = writes_more _ _ _ _ _ _ _ _ _ _ _ _ a c.integers.ensures in
    writes_same _ _ _ _ _ _ _ _ _ (deletion_text c.args.id c.args.ids.now) (writes_more _ _ _ _ _ _ _ _ _ _ _ _ b c.text-2.ensures)
