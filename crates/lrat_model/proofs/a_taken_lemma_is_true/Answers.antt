use Rattle.lrat_model.proofs.Truth.{what_follows_is_true}
use Rattle.lrat_model.proofs.Runs.{taken_is_true}
use Rattle.lrat_model.proofs.a_taken_lemma_is_true.Goals as goal

pub returns-clause-follows : goal.returns-clause-follows
returns-clause-follows c = what_follows_is_true

pub returns-clause-taken : goal.returns-clause-taken
returns-clause-taken c = taken_is_true
