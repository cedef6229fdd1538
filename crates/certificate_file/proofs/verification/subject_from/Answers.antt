use Rattle.certificate_file.proofs.VerificationLaws.{subject_is}
use Rattle.certificate_file.proofs.verification.subject_from.Goals as goal

pub returns-clause-value : goal.returns-clause-value
returns-clause-value c = subject_is c.args.system.now c.args.version c.args.header.now c.copy.result c.part_from.result c.copy.ensures c.part_from.ensures.same
