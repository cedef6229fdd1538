use Rattle.desk_io.proofs.real.write_some.Goals as goal

pub returns-in_default-clause-taken : goal.returns-in_default-clause-taken
returns-in_default-clause-taken g c = tt
