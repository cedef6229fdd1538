use Rattle.certificate_file.proofs.PartLaws.{nodes_known}
use Rattle.certificate_file.proofs.kinds.list_from.Goals as goal

pub body_begins-requires : goal.body_begins-requires
body_begins-requires c = nodes_known c.args.system.now c.args.subject c.requires
