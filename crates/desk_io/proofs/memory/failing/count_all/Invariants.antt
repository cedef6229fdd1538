use Rattle.std.proofs.Common.{◌≡◌, ◌++◌, take, drop}
use Rattle.std.specs.Prelude.{map}
use Rattle.desk_io.specs.Failing.{counted_at}
use Rattle.desk_io.proofs.memory.failing.count_all.Given as goal

abbrev pub invariant-loop-listed : goal.invariant-loop-listed
invariant-loop-listed l =
    l.calls ≡ map (counted_at l.call) (take l.listed-index l.initial.calls) ++ drop l.listed-index l.initial.calls
