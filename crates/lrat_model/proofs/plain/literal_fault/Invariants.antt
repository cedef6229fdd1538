use Rattle.std.proofs.Common.{◌≡◌, [], take, drop}
use Rattle.lrat_model.specs.Steps.{literal_fault}
use Rattle.lrat_model.proofs.plain.literal_fault.Given as goal

abbrev pub invariant-loop-i : goal.invariant-loop-i
invariant-loop-i l = literal_fault l.vars (take l.i l.lits) (drop l.i l.lits) ≡ literal_fault l.vars [] l.lits
