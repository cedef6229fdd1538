use Rattle.certificate_file.proofs.PartLaws.{whole_is_part}
use Rattle.certificate_file.proofs.verification.part_from.Goals as goal

pub returns-in-None : goal.returns-in-None
returns-in-None c = rw (c.in-None.is, c.everyone-everyone.ensures.nodes) (whole_is_part c.args.system.now c.everyone-everyone.ensures.system)
