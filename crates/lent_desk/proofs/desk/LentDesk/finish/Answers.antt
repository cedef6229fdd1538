use Rattle.lent_desk.specs.declared.files.File.TheVariants.{Made}
use Rattle.lent_desk.proofs.desk.LentDesk.finish.Goals as goal

pub bring-cert-requires : goal.bring-cert-requires
bring-cert-requires c = c.args.self.now.spans_fit Made c.in-Some.span c.in-Some.is
