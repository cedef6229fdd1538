use Rattle.std.proofs.Common.{sym, ◌∙◌, ap}
use Rattle.fbas_model.specs.Systems.{System}
use Rattle.blocking_lists.specs.declared.outcome.ListOutcome.{ListOutcome}
use Rattle.enumeration_journal.specs.declared.kinds.ListKind.TheVariants as kind
use Rattle.cert_writer.specs.Texts.{list_text}
use Rattle.cert_writer.specs.Listing.{list_cert_over}
use Rattle.cert_writer.proofs.Ends.{puts_same}
use Rattle.cert_writer.proofs.listing.write_list.Goals as goal

pub returns-in-Whole : goal.returns-in-Whole
returns-in-Whole g c =
    let about = c.args.about.now in
    let whole = about.whole.now in
    let of_part = ap (λ (p : System). list_text whole.names p.names about.digest.now about.header.now c.args.sought kind.Whole c.in-Whole.journal) c.requires.part.part in
    puts_same _ _ _ _ _ _ _ _ (of_part ∙ ap (λ (x : ListOutcome). list_cert_over c.args.sought whole about.digest.now about.header.now x) (sym c.in-Whole.is)) c.write_certificate.ensures

pub returns-in-Spent : goal.returns-in-Spent
returns-in-Spent g c =
    let about = c.args.about.now in
    let whole = about.whole.now in
    let of_part = ap (λ (p : System). list_text whole.names p.names about.digest.now about.header.now c.args.sought kind.Partial c.in-Spent.journal) c.requires.part.part in
    puts_same _ _ _ _ _ _ _ _ (of_part ∙ ap (λ (x : ListOutcome). list_cert_over c.args.sought whole about.digest.now about.header.now x) (sym c.in-Spent.is)) c.write_certificate-in-Spent.ensures
