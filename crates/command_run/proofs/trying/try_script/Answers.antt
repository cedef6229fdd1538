use Rattle.std.proofs.Common.{rules}
use Rattle.whatif_session.specs.Scripts.{states_of}
use Rattle.command_run.proofs.trying.try_script.Goals as goal

pub returns-in-Ok-clause-said : goal.returns-in-Ok-clause-said
unfolding states_of
returns-in-Ok-clause-said c = search rules

pub returns-in-Ok-clause-err : goal.returns-in-Ok-clause-err
unfolding states_of
returns-in-Ok-clause-err c = search rules
