use Rattle.lrat_model.specs.Literal.{variable_of}
use Rattle.cdcl_core.proofs.Rounds.{none_later}
use Rattle.cdcl_core.proofs.marks.Marks.clear.Goals as goal

pub returns-clause-none : goal.returns-clause-none
returns-clause-none c = λ l. none_later c.next_round-self-inside.new.rounds.items c.next_round-self-inside.result c.next_round-self-inside.ensures.later (variable_of l)
