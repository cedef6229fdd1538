use Rattle.std.proofs.Common.{◌≡◌, take}
use Rattle.std.specs.Prelude.{sum_by}
use Rattle.fbas_core.proofs.Sums.{entries_at}
use Rattle.fbas_core.proofs.System.entries.Given as goal

abbrev pub invariant-loop-set : goal.invariant-loop-set
invariant-loop-set l = l.entries ≡ sum_by entries_at (take l.set-index l.set-items)
