use Rattle.cert_writer.specs.Texts.{header_lines}
use Rattle.cert_writer.specs.Content.{content_front}
use Rattle.cert_writer.proofs.Ends.{ends_certificate}
use Rattle.cert_writer.proofs.whole.write_certificate.Goals as goal

pub returns : goal.returns
returns g c =
    let about = c.args.about.now in
    ends_certificate _ (header_lines about.whole.now.names about.digest.now about.header.now) (content_front about.part.now.names c.args.content) _ _ _ _ _ _ _ _ _ _ c.requires.fresh c.certificate.ensures.writes c.finish.ensures.writes c.finish.ensures.failed c.finish.ensures.empty
