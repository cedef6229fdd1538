use Rattle.cert_writer.proofs.LeastFound.{can_be_least, least_found}
use Rattle.cert_writer.proofs.least.what_is_least_is_found.Goals as goal

pub returns-clause-written : goal.returns-clause-written
returns-clause-written c = can_be_least

pub returns-clause-found : goal.returns-clause-found
returns-clause-found c = λ s outcome is sorted long bytes head small r. least_found s is sorted long bytes head small outcome r
