use Rattle.std.proofs.Common.{◌≡◌, ◌*◌, ℕ, [], ◌∷◌, ◌++◌, decimal, ◌∙◌, ap, arith}
use Rattle.cert_writer.specs.Texts.{Text, kind_line}
use Rattle.cert_writer.proofs.WritingLaws.{writes_more, writes_same}
use Rattle.cert_writer.proofs.TextSteps.{least_text}
use Rattle.cert_writer.proofs.writer.CertWriter.least_lines.Goals as goal

pub returns : goal.returns
returns g c =
    let kind = writes_same _ _ _ _ _ _ _ _ _ (ap (λ (w : Text). kind_line w ++ 10 ∷ []) c.kind_word.ensures) c.kind_line.ensures in
    let a = writes_more _ _ _ _ _ _ _ _ _ _ _ _ kind c.text.ensures in
    let vars = writes_same _ _ _ _ _ _ _ _ _ (ap (λ (n : ℕ). 32 ∷ decimal n) c.counter_vars.ensures) c.number.ensures in
    let b = writes_more _ _ _ _ _ _ _ _ _ _ _ _ a vars in
    let one : c.from.result ≡ c.args.size = omega arith in
    let other : c.from-2.result ≡ c.args.size = omega arith in
    let square : c.from.result * c.from-2.result ≡ c.args.size * c.args.size = ap (λ (n : ℕ). n * c.from-2.result) one ∙ ap (λ (n : ℕ). c.args.size * n) other in
    let clauses = writes_same _ _ _ _ _ _ _ _ _ (ap (λ (n : ℕ). 32 ∷ decimal n) square) c.number-2.ensures in
    let d = writes_more _ _ _ _ _ _ _ _ _ _ _ _ b clauses in
    let e = writes_more _ _ _ _ _ _ _ _ _ _ _ _ d c.text-2.ensures in
    writes_same _ _ _ _ _ _ _ _ _ (least_text c.args.size c.args.kind c.args.names.now c.args.journal.now) (writes_more _ _ _ _ _ _ _ _ _ _ _ _ e c.journal_lines.ensures)
