use Rattle.std.proofs.Common.{◌++◌, ◌∷◌, [], ap}
use Rattle.cert_writer.specs.Texts.{Text, kind_line}
use Rattle.cert_writer.proofs.WritingLaws.{writes_more, writes_same}
use Rattle.cert_writer.proofs.TextSteps.{list_text}
use Rattle.cert_writer.proofs.writer.CertWriter.list_lines.Goals as goal

pub returns : goal.returns
returns g c =
    let kind = writes_same _ _ _ _ _ _ _ _ _ (ap (λ (w : Text). kind_line w ++ 10 ∷ []) c.kind_word.ensures) c.kind_line.ensures in
    writes_same _ _ _ _ _ _ _ _ _ (list_text c.args.sought c.args.kind c.args.names.now c.args.journal.now) (writes_more _ _ _ _ _ _ _ _ _ _ _ _ kind c.journal_lines.ensures)
