use Rattle.std.proofs.Common.{ℕ, List, ◌∷◌, ap}
use Rattle.cert_writer.proofs.WritingLaws.{writes_more, writes_same}
use Rattle.cert_writer.proofs.TextSteps.{kind_text}
use Rattle.cert_writer.proofs.writer.CertWriter.kind_line.Goals as goal

pub returns : goal.returns
returns g c =
    let word = writes_same _ _ _ _ _ _ _ _ _ (ap (λ (z : List ℕ). 32 ∷ z) c.as_bytes.ensures.value) c.word.ensures in
    let a = writes_more _ _ _ _ _ _ _ _ _ _ _ _ c.text.ensures word in
    let b = writes_more _ _ _ _ _ _ _ _ _ _ _ _ a c.text-2.ensures in
    writes_same _ _ _ _ _ _ _ _ _ (kind_text c.args.word.now) b
