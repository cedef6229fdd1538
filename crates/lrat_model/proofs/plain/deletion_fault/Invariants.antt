use Rattle.std.proofs.Common.{◌≡◌, [], take, drop}
use Rattle.lrat_model.specs.Steps.{deletion_fault}
use Rattle.lrat_model.specs.Entries.{held_of}
use Rattle.lrat_model.proofs.plain.deletion_fault.Given as goal

abbrev pub invariant-loop-i : goal.invariant-loop-i
invariant-loop-i l = deletion_fault (held_of l.held) (take l.i l.ids) (drop l.i l.ids) ≡ deletion_fault (held_of l.held) [] l.ids
