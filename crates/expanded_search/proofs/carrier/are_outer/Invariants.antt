use Rattle.std.proofs.Common.{take}
use Rattle.expanded_search.specs.Carriers.{AreLitsNowhere}
use Rattle.expanded_search.proofs.carrier.are_outer.Given as goal

abbrev pub invariant-loop-l : goal.invariant-loop-l
invariant-loop-l l = AreLitsNowhere l.cells (take l.l-index l.lits)
