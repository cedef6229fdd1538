use Rattle.cert_writer.proofs.ListFound.{can_be_listed, list_found}
use Rattle.cert_writer.proofs.listing.what_is_listed_is_found.Goals as goal

pub returns-clause-written : goal.returns-clause-written
returns-clause-written c = can_be_listed

pub returns-clause-found : goal.returns-clause-found
returns-clause-found c = λ sought s outcome is sorted long bytes head small r. list_found s is sorted long bytes head small sought outcome r
