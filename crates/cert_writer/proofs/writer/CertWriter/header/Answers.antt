use Rattle.std.proofs.Common.{ℕ, List, ◌∷◌, ◌∙◌, ap}
use Rattle.fbas_model.specs.Names.{Name}
use Rattle.cert_writer.specs.Texts.{joined, header_lines}
use Rattle.cert_writer.proofs.WritingLaws.{writes_more, writes_same}
use Rattle.cert_writer.proofs.TextSteps.{header_text}
use Rattle.cert_writer.proofs.writer.CertWriter.header.Goals as goal

pub returns : goal.returns
returns g c =
    let about = c.args.about.now in
    let w = writes_same _ _ _ _ _ _ _ _ _ (ap (λ (z : List ℕ). 32 ∷ z) c.digits.ensures) c.word.ensures in
    let a = writes_more _ _ _ _ _ _ _ _ _ _ _ _ c.text.ensures w in
    let b = writes_more _ _ _ _ _ _ _ _ _ _ _ _ a c.text-2.ensures in
    let d = writes_more _ _ _ _ _ _ _ _ _ _ _ _ b c.from.ensures in
    let e = writes_more _ _ _ _ _ _ _ _ _ _ _ _ d c.text-3.ensures in
    let f = writes_more _ _ _ _ _ _ _ _ _ _ _ _ e c.names.ensures in
    let h = writes_more _ _ _ _ _ _ _ _ _ _ _ _ f c.text-4.ensures in
    writes_same _ _ _ _ _ _ _ _ _ (header_text c.names-names.result.now about.digest.now about.header.now ∙ ap (λ (ns : List Name). joined (header_lines ns about.digest.now about.header.now)) c.names-names.ensures.names) h
