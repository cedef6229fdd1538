use Rattle.cert_writer.proofs.GroupFound.{can_be_groups, groups_found}
use Rattle.cert_writer.proofs.grouping.what_is_grouped_is_found.Goals as goal

pub returns-clause-written : goal.returns-clause-written
returns-clause-written c = can_be_groups

pub returns-clause-found : goal.returns-clause-found
returns-clause-found c = λ s given groups outcome is sorted long bytes head small orgs are groups_are r. groups_found s is sorted long bytes head small given groups outcome orgs are groups_are r
