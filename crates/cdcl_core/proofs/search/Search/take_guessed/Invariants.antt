use Rattle.std.proofs.Common.{◌≡◌, ◌≢◌, ℕ, ◌<◌, ◌≤◌, ◌-◌, length}
use Rattle.cdcl_core.specs.declared.gated.Taken.TheVariants.{Nothing, Forced, Conflict}
use Rattle.cdcl_core.specs.Searching.{HasSame, IsSearching}
use Rattle.search_heuristics.specs.Open.{open_count}
use Rattle.cdcl_core.proofs.search.Search.take_guessed.Given as goal

abbrev pub invariant-loop-next : goal.invariant-loop-next
invariant-loop-next l = record {
  same : HasSame l.initial.self l.self;
  searching : IsSearching l.self.clauses l.self;
  counted : l.self.gates.counted ≡ l.initial.self.gates.counted;
  unchanged : l.taken ≡ Nothing → (l.self.assignment ≡ l.initial.self.assignment) × (l.self.pairs ≡ l.initial.self.pairs);
  forced : l.taken ≡ Forced → open_count l.self.assignment.trues l.self.vars < open_count l.initial.self.assignment.trues l.initial.self.vars;
  fewer : open_count l.self.assignment.trues l.self.vars ≤ open_count l.initial.self.assignment.trues l.initial.self.vars;
  unopposed : (id : ℕ) → l.taken ≢ Conflict id;
}

abbrev pub decreases-loop-next : goal.decreases-loop-next
decreases-loop-next l = length l.self.gates.guesses.ids.items - l.next
