use Rattle.certificate_file.proofs.PartLaws.{is_shared}
use Rattle.certificate_file.proofs.parts.in_part.Goals as goal

pub returns : goal.returns
returns c = is_shared c.args.set c.args.nodes.now c.meet.new.self c.requires c.meet.ensures.size c.meet.ensures.shared
