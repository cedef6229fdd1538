use Rattle.std.proofs.Common.{ℕ, List, ap}
use Rattle.fbas_model.specs.Nodes.{size}
use Rattle.fbas_model.specs.Systems.{System}
use Rattle.enumeration_journal.specs.Journals.{JournalLine}
use Rattle.enumeration_journal.specs.declared.kinds.ListKind.{ListKind}
use Rattle.cert_writer.specs.Texts.{least_text}
use Rattle.cert_writer.specs.Promises.{greatest_of_part}
use Rattle.cert_writer.proofs.Ends.{puts_same, puts_journal}
use Rattle.cert_writer.proofs.least.write_least.Goals as goal

pub returns : goal.returns
returns g c =
    let about = c.args.about.now in
    let text = λ (n : ℕ) (p : System) (k : ListKind) (js : List JournalLine). least_text about.whole.now.names p.names about.digest.now about.header.now n k js in
    puts_journal _ (text (size (greatest_of_part about.whole.now about.header.now))) _ _ _ _ _ _ _ _ _ _ _ c.requires.part.part c.kind_of.ensures c.journal_of.ensures
    (puts_same _ _ _ _ _ _ _ _ (ap (λ (n : ℕ). text n about.part.now c.kind_of.result c.journal_of.result.now) c.requires.nodes) c.write_certificate.ensures)
