use Rattle.std.proofs.Common.{List}
use Rattle.fbas_model.specs.Systems.{System}
use Rattle.enumeration_journal.specs.Journals.{JournalLine}
use Rattle.enumeration_journal.specs.declared.kinds.ListKind.{ListKind}
use Rattle.node_json.specs.Groups.{texts_of}
use Rattle.cert_writer.specs.Texts.{group_text}
use Rattle.cert_writer.proofs.Ends.{puts_journal}
use Rattle.cert_writer.proofs.grouping.write_groups.Goals as goal

pub returns : goal.returns
returns g c =
    let about = c.args.about.now in
    puts_journal _ (λ (p : System) (k : ListKind) (js : List JournalLine). group_text about.whole.now.names p.names about.digest.now about.header.now (texts_of c.args.groups.now) c.args.orgs_digest.now k js) _ _ _ _ _ _ _ _ _ _ _ c.requires.part.part c.kind_of.ensures c.journal_of.ensures c.write_certificate.ensures
