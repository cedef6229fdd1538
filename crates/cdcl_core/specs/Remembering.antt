-- What is remembered of lemmas, and which of them go.
use Rattle.std.specs.Prelude.{◌≡◌, ℕ, ◌+◌, ◌<◌, ◌≤◌, ◌∷◌, ◌++◌, [], true, false, not, Some, List, length, filter, All, AllPairs}
use Rattle.lrat_model.specs.Literal.{Literal}
use Rattle.lrat_model.specs.Clauses.{clause_at, has_id, without}
use Rattle.lrat_model.specs.Steps.{Deletion}
use Rattle.cdcl_core.specs.declared.memory.TheConstants.{MOST_DELETED}
use Rattle.cdcl_core.specs.declared.search.Search.{Search}
use Rattle.cdcl_core.specs.Log.{live_in, count_from, most_live}

-- of the live lemmas these go, at most as many as a deletion may take, each once and none that is needed
pub record IsChosen (live needed gone : List ℕ) : Type 0 where
  pub rise : AllPairs (λ j k. j < k) gone
  pub most : length gone ≤ MOST_DELETED
  pub named : All (λ k. has_id live k ≡ true) gone
  pub fewer : length (filter (λ k. not (has_id gone k)) live) + length gone ≡ length live
  pub spared : All (λ k. has_id needed k ≡ false) gone

-- the lemmas that are live after the log are remembered in order, each is held and has a literal, and they have room
pub record IsRemembering (s : Search) : Type 0 where
  pub live : s.memory.ids.items ≡ live_in s.log
  pub count : s.memory.deletions ≡ count_from 0 s.log
  pub rise : AllPairs (λ j k. j < k) s.memory.ids.items
  pub held : (k : ℕ) → has_id s.memory.ids.items k ≡ true → (clause : List Literal) × (clause_at s.clauses k ≡ Some clause) × (0 < length clause)
  pub room : length s.memory.ids.items ≤ most_live s.vars s.memory.deletions

-- the lemmas of these ids are deleted, which is logged with the last id
pub record HasDeletion (old new : Search) (gone : List ℕ) : Type 0 where
  pub vars : new.vars ≡ old.vars
  pub last : new.last ≡ old.last
  pub clauses : new.clauses ≡ without old.clauses gone
  pub log : new.log ≡ old.log ++ Deletion old.last gone ∷ []
  pub ids : new.memory.ids.items ≡ filter (λ k. not (has_id gone k)) old.memory.ids.items
  pub deletions : new.memory.deletions ≡ old.memory.deletions + 1
