use Rattle.std.proofs.Common.{◌≡◌, ℕ, ◌<◌, ◌-◌, length}
use Rattle.lrat_model.specs.Propagation.{status}
use Rattle.cdcl_core.specs.Fixpoint.{IsQuiet}
use Rattle.cdcl_core.specs.Watches.{lits_at}
use Rattle.cdcl_core.proofs.search.Search.take_any.Given as goal

abbrev pub invariant-loop-place : goal.invariant-loop-place
invariant-loop-place l = record {
  unchanged : l.self ≡ l.initial.self;
  quiet : (p : ℕ) → p < l.place → IsQuiet l.initial.self.assignment.trues (status l.initial.self.assignment.trues (lits_at l.initial.self.clauses p));
}

abbrev pub decreases-loop-place : goal.decreases-loop-place
decreases-loop-place l = length l.self.clauses - l.place
