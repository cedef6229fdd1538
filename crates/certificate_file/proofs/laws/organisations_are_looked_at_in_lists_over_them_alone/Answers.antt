use Rattle.certificate_file.proofs.WithoutOrgs.{answered_alike, accepted_with}
use Rattle.certificate_file.proofs.laws.organisations_are_looked_at_in_lists_over_them_alone.Goals as goal

pub returns-clause-same : goal.returns-clause-same
returns-clause-same c = answered_alike

pub returns-clause-accepted : goal.returns-clause-accepted
returns-clause-accepted c = accepted_with
