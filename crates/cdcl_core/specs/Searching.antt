-- Where a search stands, and how it goes on.
use Rattle.std.specs.Prelude.{true, ◌≡◌, ◌≢◌, ℕ, ◌+◌, ◌*◌, ◌<◌, ◌≤◌, ◌^◌, ◌++◌, ◌∷◌, [], List, ℤ, length, All, AllPairs, slice_index}
use Rattle.lrat_model.specs.Literal.{Literal}
use Rattle.lrat_model.specs.Clauses.{Held, with_clause}
use Rattle.lrat_model.specs.Steps.{Addition, Database}
use Rattle.lrat_text.specs.Texts.{HasNumbers}
use Rattle.cdcl_core.specs.declared.search.Search.{Search}
use Rattle.cdcl_core.specs.Fixpoint.{IsConflict}
use Rattle.cdcl_core.specs.Guides.{IsGuide}
use Rattle.cdcl_core.specs.Log.{IsBoundedLog}
use Rattle.cdcl_core.specs.Search.{IsState}
use Rattle.cdcl_core.specs.Trail.{InRange}
use Rattle.cdcl_core.specs.Watches.{lits_at, pair_at, IsWatched, IsQueued}
use Rattle.cardinality_counts.specs.Gates.{IsSet}
use Rattle.cardinality_counts.specs.Counts.{IsCounting}

-- the clauses held, with the last id
abbrev pub database_in : Search → Database
database_in s = record { held = s.clauses; last = s.last }

-- the clauses held stand under rising ids up to the last, over the variables
pub record IsHolding (s : Search) : Type 0 where
  pub few : s.vars < 2 ^ 31
  pub rise : AllPairs (λ e f. e.0 < f.0) s.clauses
  pub ids : All (λ e. (0 < e.0) × (e.0 ≤ s.last)) s.clauses
  pub range : InRange s.vars s.clauses

-- the gates are counted along the trail; the clauses that are counted are sets of their inputs
pub record IsGated (held : Held) (s : Search) : Type 0 where
  pub counting : IsCounting s.gates s.assignment.trues
  pub vars : s.gates.vars ≡ s.vars
  pub covered : (p : ℕ) → p < length held → (pair_at s.pairs.items p).is_counted ≡ true → IsSet s.gates.gates.items (lits_at held p)

-- the trail is derived from these clauses, which are watched or counted
pub record IsSearching (held : Held) (s : Search) : Type 0 where
  pub vars : s.assignment.vars ≡ s.vars
  pub guide : IsGuide s.vars s.guide
  pub state : IsState s.vars held s.assignment.trues s.reasons.items
  pub lists : length s.lists ≡ 2 * (s.vars + 1)
  pub watched : (l : Literal) → IsWatched held s.pairs.items s.lists l []
  pub queued : IsQueued held s.pairs.items s.assignment.trues s.reasons.items s.head
  pub gated : IsGated held s

-- the clause of this id is false
pub record IsStuck (s : Search) (conflict : ℕ) : Type 0 where
  pub vars : s.assignment.vars ≡ s.vars
  pub guide : IsGuide s.vars s.guide
  pub state : IsState s.vars s.clauses s.assignment.trues s.reasons.items
  pub finds : IsConflict s.clauses s.assignment.trues conflict

-- the variables, the clauses held, the log and the lemmas are as they were
pub record HasSame (old new : Search) : Type 0 where
  pub vars : new.vars ≡ old.vars
  pub last : new.last ≡ old.last
  pub clauses : new.clauses ≡ old.clauses
  pub log : new.log ≡ old.log
  pub lemmas : new.memory.ids ≡ old.memory.ids
  pub deletions : new.memory.deletions ≡ old.memory.deletions

-- the variables, the clauses held and the log alone are
pub record HasLogged (old new : Search) : Type 0 where
  pub vars : new.vars ≡ old.vars
  pub last : new.last ≡ old.last
  pub clauses : new.clauses ≡ old.clauses
  pub log : new.log ≡ old.log

-- this lemma is held and logged under the next id
pub record HasLemma (old new : Search) (lits : List Literal) (hints : List ℤ) : Type 0 where
  pub vars : new.vars ≡ old.vars
  pub last : new.last ≡ old.last + 1
  pub clauses : new.clauses ≡ with_clause old.clauses (old.last + 1) lits
  pub log : new.log ≡ old.log ++ Addition (old.last + 1) lits hints ∷ []

-- and it is remembered
pub record IsNoted (old new : Search) : Type 0 where
  pub ids : new.memory.ids.items ≡ old.memory.ids.items ++ (old.last + 1) ∷ []
  pub deletions : new.memory.deletions ≡ old.memory.deletions

-- the clauses held, and the log: a step line can say its numbers, and it keeps within the bounds
pub record IsLogging (s : Search) : Type 0 where
  pub holding : IsHolding s
  pub numbers : All HasNumbers s.log
  pub bounded : IsBoundedLog s.vars s.log

-- nothing is decided
abbrev pub IsUndecided : Search → Type 0
IsUndecided s = (p : ℕ) → p < length s.assignment.trues → slice_index s.reasons.items p ≢ 0
