use Rattle.std.proofs.Common.{◌-◌, ◌≤◌, take}
use Rattle.std.specs.Prelude.{codes}
use Rattle.std.specs.Io.KnownBytes.{Consumes}
use Rattle.desk_io.proofs.spare.is_spare.Given as goal

abbrev pub invariant-loop-at : goal.invariant-loop-at
invariant-loop-at g l = record {
  within : l.at ≤ 10;
  read : Consumes (g.F.Read.remaining l.fn.file) (g.F.Read.remaining l.file) (take l.at (codes "fbas-cert "));
}

abbrev pub decreases-loop-at : goal.decreases-loop-at
decreases-loop-at g l = 10 - l.at
