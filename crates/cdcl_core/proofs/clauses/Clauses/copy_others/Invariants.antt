use Rattle.std.proofs.Common.{◌≡◌, ◌≤◌, ◌-◌, length, take}
use Rattle.lrat_model.specs.Clauses.{without}
use Rattle.cdcl_core.proofs.clauses.Clauses.copy_others.Given as goal

abbrev pub invariant-loop-place : goal.invariant-loop-place
invariant-loop-place l = record {
  within : l.place ≤ length l.self;
  held : l.clauses ≡ without (take l.place l.self) l.ids;
}

abbrev pub decreases-loop-place : goal.decreases-loop-place
decreases-loop-place l = length l.self - l.place
