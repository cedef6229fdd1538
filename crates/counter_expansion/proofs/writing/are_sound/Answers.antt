use Rattle.counter_expansion.proofs.writing.are_sound.Goals as goal

pub returns-clause-nowhere : goal.returns-clause-nowhere
returns-clause-nowhere c = λ _. c.are_inputs_nowhere.ensures c.if-not-are_inputs_nowhere.false
