use Rattle.std.proofs.Common.{List, ap}
use Rattle.fbas_model.specs.Names.{Name}
use Rattle.cert_writer.specs.Texts.{joined, header_lines}
use Rattle.cert_writer.specs.Content.{content_front}
use Rattle.cert_writer.proofs.WritingLaws.{writes_more, writes_same}
use Rattle.cert_writer.proofs.TextSteps.{both_texts}
use Rattle.cert_writer.proofs.writer.CertWriter.certificate.Goals as goal

pub returns-clause-writes : goal.returns-clause-writes
returns-clause-writes g c =
    let about = c.args.about.now in
    let body = writes_same _ _ _ _ _ _ _ _ _ (ap (λ (ns : List Name). joined (content_front ns c.args.content)) c.names.ensures.names) c.content.ensures in
    writes_same _ _ _ _ _ _ _ _ _ (both_texts (header_lines about.whole.now.names about.digest.now about.header.now) (content_front about.part.now.names c.args.content)) (writes_more _ _ _ _ _ _ _ _ _ _ _ _ c.header.ensures body)
