-- Where a solver stands between two calls.
use Rattle.std.proofs.Common.{◌≡◌, ◌⊎◌, ℕ, ◌+◌, ◌*◌, ◌<◌, ◌≤◌, ◌++◌, ◌∷◌, [], Bool, true, false, List, ⊎_elim, inl, inr, refl, sym, ap, ◌∙◌, subst, arith, length, take, length-take, Result, Ok, Err, Some}
use Rattle.std.specs.Prelude.{AllPairs, OnOk, is_err}
use Rattle.std.proofs.lemmas.Bool.{true≢false, false≢true}
use Rattle.std.proofs.lemmas.List.{take_all, take-append-le}
use Rattle.lrat_model.specs.Literal.{Literal, Plus}
use Rattle.lrat_model.specs.Clauses.{Held, clause_at, has_id, with_clause}
use Rattle.lrat_model.specs.Steps.{ProofStep}
use Rattle.lrat_model.proofs.Runs.{clause_at-more}
use Rattle.cdcl_core.specs.declared.search.Search.{Search}
use Rattle.cdcl_core.specs.Log.{EndsEmpty, HasNoEmptyLemma, IsBoundedLog, count_from, live_in, units}
use Rattle.cdcl_core.specs.Remembering.{IsRemembering}
use Rattle.cdcl_core.specs.Search.{IsState, Searched}
use Rattle.cdcl_core.specs.Searching.{IsHolding, IsSearching, database_in}
use Rattle.cdcl_core.specs.Watches.{IsQueued, IsWatched}
use Rattle.cdcl_core.proofs.GatedLaws.{AreCovered}
use Rattle.cdcl_core.proofs.Lives.{bounded_later, others_kept, short_ended, short_open}
use Rattle.cdcl_core.proofs.Runs.{id_found}

pub from_on_ok : {A E : Type 0} (r : Result A E) (P : Type 0) → is_err r ≡ false → OnOk r P → P
from_on_ok (Ok a) P ok h = h
from_on_ok (Err e) P ok h = absurd (true≢false ok)

-- all clauses are watched
pub all_watched : (s : Search) → IsSearching s.clauses s → IsSearching (take (length s.pairs.items) s.clauses) s
all_watched s now = subst (λ (h : Held). IsSearching h s) (sym (take_all (length s.pairs.items) s.clauses (omega (arith, (now.watched (Plus 0)).long)))) now

-- one clause more, which is not watched yet
pub one_unwatched : (s : Search) (held : Held) (last id : ℕ) (lits : List Literal) → held ≡ with_clause s.clauses id lits → IsSearching (take (length s.pairs.items) s.clauses) s → IsSearching (take (length s.pairs.items) held) (record s { clauses = held; last = last })
one_unwatched s held last id lits is was =
    let n : ℕ = length s.pairs.items in
    let within : n ≤ length s.clauses = omega (arith, (was.watched (Plus 0)).long, length-take n s.clauses) in
    let front : take n held ≡ take n s.clauses = ap (λ (h : Held). take n h) is ∙ take-append-le n s.clauses ((id, lits) ∷ []) within in
    record {
      vars = was.vars;
      guide = was.guide;
      state = subst (λ (h : Held). IsState s.vars h s.assignment.trues s.reasons.items) (sym front) was.state;
      lists = was.lists;
      watched = λ l. subst (λ (h : Held). IsWatched h s.pairs.items s.lists l []) (sym front) (was.watched l);
      queued = subst (λ (h : Held). IsQueued h s.pairs.items s.assignment.trues s.reasons.items s.head) (sym front) was.queued;
      gated = record {
        counting = was.gated.counting;
        vars = was.gated.vars;
        covered = subst (λ (h : Held). AreCovered s.gates.gates.items h s.pairs.items) (sym front) was.gated.covered;
      };
    }

-- nothing is watched yet
pub none_watched : (s : Search) (n : ℕ) → n ≡ 0 → IsSearching [] s → IsSearching (take n s.clauses) s
none_watched s n none was = subst (λ k. IsSearching (take k s.clauses) s) (sym none) was

-- ---- what is remembered

pub remembering_at_first : (s : Search) → s.log ≡ [] → s.memory.ids.items ≡ [] → s.memory.deletions ≡ 0 → IsRemembering s
remembering_at_first s log ids deletions = record {
  live = ids ∙ ap live_in (sym log);
  count = deletions ∙ ap (count_from 0) (sym log);
  rise = subst (λ (ls : List ℕ). AllPairs (λ (j k : ℕ). j < k) ls) (sym ids) (λ i j d less within. absurd (omega (arith, within)));
  held = λ k among. absurd (false≢true (subst (λ (ls : List ℕ). has_id ls k ≡ true) ids among));
  room = omega (arith, ap (λ (ls : List ℕ). length ls) ids);
}

-- with one clause more
pub remembering_with : (s : Search) (held : Held) (last id : ℕ) (lits : List Literal) → held ≡ with_clause s.clauses id lits → IsRemembering s → IsRemembering (record s { clauses = held; last = last })
remembering_with s held last id lits is was = record {
  live = was.live;
  count = was.count;
  rise = was.rise;
  held = λ k among. let found = was.held k among in (found.0, ap (λ (h : Held). clause_at h k) is ∙ clause_at-more s.clauses id lits k found.0 found.1, found.2);
  room = was.room;
}

-- what a solver held it holds still, or it was a live lemma with a literal
pub kept_or_live : (old new : Search) (taken : ℕ) → IsHolding old → IsRemembering old → IsBoundedLog new.vars new.log → new.vars ≡ old.vars → (steps : List ProofStep) × Searched old.vars (database_in old) (database_in new) old.log new.log taken steps
    → (id : ℕ) (clause : List Literal) → clause_at old.clauses id ≡ Some clause → (clause_at new.clauses id ≡ Some clause) ⊎ ((has_id (live_in old.log) id ≡ true) × (0 < length clause))
kept_or_live old new taken holding remembering bounded vars searched id clause at =
    let all : IsBoundedLog old.vars (old.log ++ searched.0) = subst (λ k. IsBoundedLog k (old.log ++ searched.0)) vars (subst (λ (ls : List ProofStep). IsBoundedLog new.vars ls) searched.1.log_is bounded) in
    let later = bounded_later old.vars [] 0 old.log searched.0 all in
    ⊎_elim (λ held. inl held)
    (λ among.
    let found = remembering.held id (subst (λ (ls : List ℕ). has_id ls id ≡ true) (sym remembering.live) among) in
    let both : Some found.0 ≡ Some clause = sym found.1 ∙ at in
    let same : found.0 ≡ clause = cc in
    inr (among, subst (λ (ls : List Literal). 0 < length ls) same found.2))
    (others_kept old.vars (live_in old.log) (count_from 0 old.log) (database_in old) (database_in new) searched.0 searched.1.run searched.1.lemmas later id clause (id_found (λ k. (0 < k) × (k ≤ old.last)) old.clauses holding.ids id clause at).1 at)

pub short_of : (vars : ℕ) (log : List ProofStep) (refuted : Bool) → IsBoundedLog vars log → (refuted ≡ true → EndsEmpty log) → (refuted ≡ false → HasNoEmptyLemma log) → length log ≤ 2 * units log + 1
short_of vars log true bounded ends opens = short_ended vars log bounded (ends refl)
short_of vars log false bounded ends opens = short_open vars log bounded (opens refl)
