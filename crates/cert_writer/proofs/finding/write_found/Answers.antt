use Rattle.std.proofs.Common.{sym, ◌∙◌, ap}
use Rattle.fbas_model.specs.Systems.{System}
use Rattle.quorum_questions.specs.declared.answers.Answer.{Answer as Found}
use Rattle.cert_writer.specs.Texts.{pair_text}
use Rattle.cert_writer.specs.Finding.{cert_over}
use Rattle.cert_writer.proofs.Ends.{puts_same}
use Rattle.cert_writer.proofs.finding.write_found.Goals as goal

pub returns-in-Yes : goal.returns-in-Yes
returns-in-Yes g c =
    let about = c.args.about.now in
    puts_same _ _ _ _ _ _ _ _ (ap (λ (x : Found). cert_over about.whole.now about.digest.now about.header.now x) (sym c.in-Yes.is)) c.write_certificate.ensures

pub returns-in-Spent : goal.returns-in-Spent
returns-in-Spent g c =
    let about = c.args.about.now in
    puts_same _ _ _ _ _ _ _ _ (ap (λ (x : Found). cert_over about.whole.now about.digest.now about.header.now x) (sym c.in-Spent.is)) c.write_certificate-in-Spent.ensures

pub returns-in-No : goal.returns-in-No
returns-in-No g c =
    let about = c.args.about.now in
    let whole = about.whole.now in
    let of_part = ap (λ (p : System). pair_text whole.names p.names about.digest.now about.header.now c.in-No.pair) c.requires.part.part in
    puts_same _ _ _ _ _ _ _ _ (of_part ∙ ap (λ (x : Found). cert_over whole about.digest.now about.header.now x) (sym c.in-No.is)) c.write_certificate-in-No.ensures
