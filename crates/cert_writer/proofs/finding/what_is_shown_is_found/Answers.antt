use Rattle.cert_writer.proofs.Found.{can_be_written, found}
use Rattle.cert_writer.proofs.finding.what_is_shown_is_found.Goals as goal

pub returns-clause-written : goal.returns-clause-written
returns-clause-written c = can_be_written

pub returns-clause-found : goal.returns-clause-found
returns-clause-found c = found
