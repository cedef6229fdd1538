use Rattle.std.proofs.Common.{◌≡◌, ◌<◌, ◌-◌, length, take}
use Rattle.cdcl_core.specs.declared.memory.TheConstants.{MOST_DELETED}
use Rattle.cdcl_core.proofs.Parts.{IsPart, AreGone}
use Rattle.cdcl_core.proofs.memory.Memory.part.Given as goal

abbrev pub invariant-loop-place : goal.invariant-loop-place
invariant-loop-place l = record {
  part : IsPart l.self.ids.items l.needed l.gone.items l.place;
  all : l.least ≡ 0 → length l.gone.items < MOST_DELETED → AreGone (take l.place l.self.ids.items) l.gone.items l.needed;
}

abbrev pub decreases-loop-place : goal.decreases-loop-place
decreases-loop-place l = length l.self.ids.items - l.place
