use Rattle.node_json.specs.Groups.{texts_of}
use Rattle.cert_writer.proofs.WritingLaws.{writes_more, writes_same}
use Rattle.cert_writer.proofs.TextSteps.{set_text}
use Rattle.cert_writer.proofs.writer.CertWriter.block_line.Goals as goal

pub returns : goal.returns
returns g c =
    let a = writes_more _ _ _ _ _ _ _ _ _ _ _ _ c.byte.ensures c.number.ensures in
    let b = writes_more _ _ _ _ _ _ _ _ _ _ _ _ a c.texts.ensures in
    writes_same _ _ _ _ _ _ _ _ _ (set_text 98 c.args.id (texts_of c.args.groups.now) c.args.set.now) (writes_more _ _ _ _ _ _ _ _ _ _ _ _ b c.text.ensures)
