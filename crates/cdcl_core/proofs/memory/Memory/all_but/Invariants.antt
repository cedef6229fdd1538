use Rattle.std.proofs.Common.{◌≡◌, ◌≤◌, ◌-◌, not, length, take}
use Rattle.std.specs.Prelude.{filter}
use Rattle.lrat_model.specs.Clauses.{has_id}
use Rattle.cdcl_core.proofs.memory.Memory.all_but.Given as goal

abbrev pub invariant-loop-place : goal.invariant-loop-place
invariant-loop-place l = record {
  within : l.place ≤ length l.self.ids.items;
  ids : l.ids.items ≡ filter (λ k. not (has_id l.gone k)) (take l.place l.self.ids.items);
}

abbrev pub decreases-loop-place : goal.decreases-loop-place
decreases-loop-place l = length l.self.ids.items - l.place
