use Rattle.std.proofs.Common.{◌≡◌, ℕ, ◌<◌, drop, length}
use Rattle.std.specs.Prelude.{All}
use Rattle.lrat_model.specs.Clauses.{clause_at}
use Rattle.clause_store.specs.Entries.{IsRising}
use Rattle.clause_store.specs.Shown.{held_in}
use Rattle.clause_store.specs.Index.{IsWithin}
use Rattle.clause_store.proofs.store.Store.first_above.Given as goal

abbrev pub invariant-loop-entry : goal.invariant-loop-entry
invariant-loop-entry l = record {
  alike : (k : ℕ) → l.id < k → clause_at l.self.held k ≡ clause_at (held_in l.self-inside.arena.items (drop l.entry-index l.entry-items)) k;
  above : All (λ e. l.id < e.id) l.entry-items;
  rising : IsRising l.entry-items;
  within : All (IsWithin (length l.self-inside.arena.items)) l.entry-items;
}
