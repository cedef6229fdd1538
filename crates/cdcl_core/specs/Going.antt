-- How a search goes on by lemmas and deletions.
use Rattle.std.specs.Prelude.{◌≡◌, ◌≢◌, Ok, Result, ℕ, ◌+◌, ◌*◌, ◌-◌, ◌<◌, ◌≤◌, List, ℤ, length, take, slice_index}
use Rattle.lrat_model.specs.Literal.{Literal}
use Rattle.lrat_model.specs.Clauses.{IsUnsatisfiable}
use Rattle.lrat_model.specs.Steps.{ProofStep}
use Rattle.std.specs.declared.alloc.AllocError.{AllocError}
use Rattle.cdcl_core.specs.declared.run.Verdict.{Verdict}
use Rattle.cdcl_core.specs.declared.run.Verdict.TheVariants as verdict
use Rattle.cdcl_core.specs.declared.search.Search.{Search}
use Rattle.cdcl_core.specs.declared.watches.Pair.{Pair}
use Rattle.cdcl_core.specs.Log.{EndsEmpty, HasNoEmptyLemma}
use Rattle.cdcl_core.specs.Remembering.{IsRemembering}
use Rattle.cdcl_core.specs.Search.{IsLearntClause, Searched}
use Rattle.cdcl_core.specs.Searching.{IsLogging, IsSearching, database_in}
use Rattle.cdcl_core.specs.Watches.{IsAsserting}

-- what is held is logged and remembered, and no lemma that is logged is empty
pub record IsUnrefuted (s : Search) : Type 0 where
  pub logging : IsLogging s
  pub still_open : HasNoEmptyLemma s.log
  pub remembering : IsRemembering s

-- the lemma is learnt from the trail, and forces its first watched literal where the trail is cut, which is at a decision
pub record IsBackjump (s : Search) (lits : List Literal) (hints : List ℤ) (jump : ℕ) (pair : Pair) : Type 0 where
  pub learnt : IsLearntClause s.clauses s.assignment.trues s.reasons.items lits hints jump
  pub asserting : IsAsserting s.assignment.trues s.reasons.items jump lits pair
  pub within : jump < length s.assignment.trues
  pub decision : slice_index s.reasons.items jump ≡ 0

-- what is held changed by steps that are logged, which took the units from the first number down to the second
pub record HasSpent (old new : Search) (before after : ℕ) : Type 0 where
  pub vars : new.vars ≡ old.vars
  pub left : after ≤ before
  pub logging : IsLogging new
  pub searched : (steps : List ProofStep) × Searched old.vars (database_in old) (database_in new) old.log new.log (before - after) steps

-- and none of them is the empty lemma
pub record IsFurther (old new : Search) (before after : ℕ) : Type 0 where
  pub spent : HasSpent old new before after
  pub room : new.last + after ≡ old.last + before
  pub still_open : HasNoEmptyLemma new.log

-- the last of them is
pub record HasRefuted (old new : Search) : Type 0 where
  pub ends : EndsEmpty new.log
  pub before : IsUnsatisfiable old.clauses
  pub after : IsUnsatisfiable new.clauses

-- the search may go on from the clauses that are watched, and is nearer to its end
pub record IsNearer (old new : Search) (before after : ℕ) : Type 0 where
  pub remembering : IsRemembering new
  pub searching : IsSearching (take (length new.pairs.items) new.clauses) new
  pub smaller : 2 * after + length new.memory.ids.items < 2 * before + length old.memory.ids.items

-- how a search ended
pub record IsEnded (result : Result Verdict AllocError) (old new : Search) (before after : ℕ) : Type 0 where
  pub spent : HasSpent old new before after
  pub further : result ≢ Ok verdict.Unsat → IsFurther old new before after
