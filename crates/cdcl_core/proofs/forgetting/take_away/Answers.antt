use Rattle.cdcl_core.proofs.forgetting.take_away.Goals as goal

pub returns-clause-held : goal.returns-clause-held
returns-clause-held c = c.in_ok-clauses.ensures

pub returns-clause-log : goal.returns-clause-log
returns-clause-log c = c.in_ok-push_deletion.ensures.pushed

pub returns-clause-ids : goal.returns-clause-ids
returns-clause-ids c = c.in_ok-others.ensures.ids

pub returns-clause-deletions : goal.returns-clause-deletions
returns-clause-deletions c = c.in_ok-others.ensures.deletions
