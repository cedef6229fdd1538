use Rattle.std.proofs.Common.{◌<◌, take}
use Rattle.std.specs.Prelude.{All}
use Rattle.lrat_model.specs.Literal.{variable_of}
use Rattle.cdcl_core.proofs.solver.read_variables.Given as goal

abbrev pub invariant-loop-l : goal.invariant-loop-l
invariant-loop-l l = All (λ m. 0 < variable_of m) (take l.l-index l.lits)
