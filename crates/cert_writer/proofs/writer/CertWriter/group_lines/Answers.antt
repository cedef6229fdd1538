use Rattle.std.proofs.Common.{ℕ, List, [], ◌∷◌, ◌++◌, ap}
use Rattle.cert_writer.specs.Texts.{Text, kind_line}
use Rattle.node_json.specs.Groups.{texts_of}
use Rattle.cert_writer.proofs.WritingLaws.{writes_more, writes_same}
use Rattle.cert_writer.proofs.TextSteps.{group_text}
use Rattle.cert_writer.proofs.writer.CertWriter.group_lines.Goals as goal

pub returns : goal.returns
returns g c =
    let kind = writes_same _ _ _ _ _ _ _ _ _ (ap (λ (w : Text). kind_line w ++ 10 ∷ []) c.kind_word.ensures) c.kind_line.ensures in
    let a = writes_more _ _ _ _ _ _ _ _ _ _ _ _ kind c.text.ensures in
    let word = writes_same _ _ _ _ _ _ _ _ _ (ap (λ (z : List ℕ). 32 ∷ z) c.digits.ensures) c.word.ensures in
    let b = writes_more _ _ _ _ _ _ _ _ _ _ _ _ a word in
    let d = writes_more _ _ _ _ _ _ _ _ _ _ _ _ b c.text-2.ensures in
    writes_same _ _ _ _ _ _ _ _ _ (group_text c.args.names.now (texts_of c.args.groups.now) c.args.orgs_digest.now c.args.kind c.args.journal.now) (writes_more _ _ _ _ _ _ _ _ _ _ _ _ d c.group_journal.ensures)
