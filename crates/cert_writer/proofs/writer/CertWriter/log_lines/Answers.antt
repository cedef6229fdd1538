use Rattle.std.proofs.Common.{◌++◌, ◌∷◌, [], ap}
use Rattle.cert_writer.specs.Texts.{Text, kind_line}
use Rattle.cert_writer.proofs.WritingLaws.{writes_more, writes_same}
use Rattle.cert_writer.proofs.TextSteps.{log_text}
use Rattle.cert_writer.proofs.writer.CertWriter.log_lines.Goals as goal

pub returns : goal.returns
returns g c =
    let kind = writes_same _ _ _ _ _ _ _ _ _ (ap (λ (w : Text). kind_line w ++ 10 ∷ []) c.aim_word.ensures) c.kind_line.ensures in
    let a = writes_more _ _ _ _ _ _ _ _ _ _ _ _ kind c.text.ensures in
    let b = writes_more _ _ _ _ _ _ _ _ _ _ _ _ a c.number.ensures in
    let d = writes_more _ _ _ _ _ _ _ _ _ _ _ _ b c.number-2.ensures in
    let e = writes_more _ _ _ _ _ _ _ _ _ _ _ _ d c.text-2.ensures in
    writes_same _ _ _ _ _ _ _ _ _ (log_text c.args.to c.args.vars c.args.clauses c.args.log.now) (writes_more _ _ _ _ _ _ _ _ _ _ _ _ e c.steps.ensures)
