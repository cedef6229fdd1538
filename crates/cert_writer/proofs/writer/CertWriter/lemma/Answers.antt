use Rattle.cert_writer.proofs.WritingLaws.{writes_more, writes_same}
use Rattle.cert_writer.proofs.StepTexts.{lemma_text}
use Rattle.cert_writer.proofs.writer.CertWriter.lemma.Goals as goal

pub returns : goal.returns
returns g c =
    let a = writes_more _ _ _ _ _ _ _ _ _ _ _ _ c.step_id.ensures c.literals.ensures in
    let b = writes_more _ _ _ _ _ _ _ _ _ _ _ _ a c.text.ensures in
    let d = writes_more _ _ _ _ _ _ _ _ _ _ _ _ b c.hints.ensures in
    writes_same _ _ _ _ _ _ _ _ _ (lemma_text c.args.id c.args.lits.now _) (writes_more _ _ _ _ _ _ _ _ _ _ _ _ d c.text-2.ensures)
