use Rattle.certificate_file.proofs.PartLaws.{nodes_known}
use Rattle.certificate_file.proofs.organisations.list_over.Goals as goal

pub groups_begin-requires-clause-part : goal.groups_begin-requires-clause-part
groups_begin-requires-clause-part c = nodes_known c.args.system.now c.args.subject c.requires.subject
