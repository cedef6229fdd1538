-- What was given stays: each later lemma has an id above it, and a deletion names lemmas alone.
use Rattle.std.proofs.Common.{◌≡◌, ℕ, ◌+◌, ◌<◌, ◌≤◌, ◌==◌, Bool, true, false, not, ◌||◌, cond, List, [], ◌∷◌, ◌++◌, length, filter, sym, ap, ◌∙◌, subst, arith, Some, ◌⊎◌, ⊎_elim}
use Rattle.std.proofs.lemmas.Bool.{both_ways, false_from_ne_true, eqb-true, or_cases, or_left, or_right, false≢true}
use Rattle.std.proofs.lemmas.List.Folds.{list_any-append}
use Rattle.lrat_model.specs.Literal.{Literal}
use Rattle.lrat_model.specs.Clauses.{Held, clause_at, has_id, with_clause}
use Rattle.lrat_model.specs.Steps.{ProofStep, Addition, Deletion, Database, after_step}
use Rattle.lrat_model.specs.Runs.{Run}
use Rattle.cdcl_core.specs.Log.{AreLemmas, live_from, live_in}
use Rattle.cdcl_core.specs.Solving.{Solving, logged}
use Rattle.cdcl_core.proofs.Lives.{live_from-append}
use Rattle.lrat_model.proofs.Runs.{clause_at-more}
use Rattle.enumeration_journal.proofs.Ids.{AreBelow, found_new}
use Rattle.least_quorum.specs.Search.{AreLow}
use Rattle.least_quorum.specs.Staying.{Stays, HoldsCounter}

-- an id that was not live is not after a lemma with another one
not_pushed : (live : List ℕ) (new id : ℕ) → has_id live id ≡ false → (new ≡ id → ⊥) → has_id (live ++ new ∷ []) id ≡ false
not_pushed live new id off other = false_from_ne_true (has_id (live ++ new ∷ []) id) (λ on.
    let both : (has_id live id || ((new == id) || false)) ≡ true = sym (list_any-append (λ k. k == id) live (new ∷ [])) ∙ on in
    ⊎_elim (λ was. both_ways (has_id live id) off was) (λ last. ⊎_elim (λ same. absurd (other (eqb-true new id same))) (λ none. false≢true none) (or_cases (new == id) false last)) (or_cases (has_id live id) ((new == id) || false) both))

-- nor after a deletion
not_kept : (p : ℕ → Bool) (live : List ℕ) (id : ℕ) → has_id live id ≡ false → has_id (filter p live) id ≡ false
not_kept p live id off = false_from_ne_true (has_id (filter p live) id) (λ on. both_ways (has_id live id) off (was p live id on))
  where
    was : (p : ℕ → Bool) (live : List ℕ) (id : ℕ) → has_id (filter p live) id ≡ true → has_id live id ≡ true
    was p [] id on = on
    was p (k ∷ live) id on = elim (p k) as (λ b. has_id (cond b (k ∷ filter p live) (filter p live)) id ≡ true → has_id (k ∷ live) id ≡ true) [
      | true ↦ λ h. ⊎_elim (λ first. or_left (k == id) (has_id live id) first) (λ later. or_right (k == id) (has_id live id) (was p live id later)) (or_cases (k == id) (has_id (filter p live) id) h)
      | false ↦ λ h. or_right (k == id) (has_id live id) (was p live id h)
    ] on

never_live : (vars : ℕ) (d : Database) (live : List ℕ) (steps : List ProofStep) (id : ℕ) → has_id live id ≡ false → id ≤ d.last → AreLemmas vars d steps → has_id (live_from live steps) id ≡ false
never_live vars d live [] id off low lemmas = off
never_live vars d live (Addition new [] hints ∷ steps) id off low lemmas = let next = lemmas.0.next in never_live vars (after_step d (Addition new [] hints)) live steps id off (omega (arith, next)) lemmas.1
never_live vars d live (Addition new (l ∷ ls) hints ∷ steps) id off low lemmas =
    let next = lemmas.0.next in
    never_live vars (after_step d (Addition new (l ∷ ls) hints)) (live ++ new ∷ []) steps id (not_pushed live new id off (λ same. absurd (omega (arith, next, same)))) (omega (arith, next)) lemmas.1
never_live vars d live (Deletion own ids ∷ steps) id off low lemmas = never_live vars (after_step d (Deletion own ids)) (filter (λ k. not (has_id ids k)) live) steps id (not_kept (λ k. not (has_id ids k)) live id off) low lemmas.1

last_grows : (vars : ℕ) (d : Database) (steps : List ProofStep) (new : Database) → Run vars d steps new → AreLemmas vars d steps → d.last ≤ new.last
last_grows vars d [] new run lemmas = let same : new.last ≡ d.last = ap (λ (x : Database). x.last) run in omega (arith, same)
last_grows vars d (Addition id lits hints ∷ steps) new run lemmas =
    let next = lemmas.0.next in
    let rest : id ≤ new.last = last_grows vars (after_step d (Addition id lits hints)) steps new run.1 lemmas.1 in
    omega (arith, next, rest)
last_grows vars d (Deletion own ids ∷ steps) new run lemmas = last_grows vars (after_step d (Deletion own ids)) steps new run.1 lemmas.1

pub stays : (old new : Solving) (id : ℕ) (clause : List Literal) → new.log ≡ old.log ++ logged old new → Run old.vars old.database (logged old new) new.database → AreLemmas old.vars old.database (logged old new)
    → ((id : ℕ) (clause : List Literal) → clause_at old.database.held id ≡ Some clause → (clause_at new.database.held id ≡ Some clause) ⊎ ((has_id (live_in old.log) id ≡ true) × (0 < length clause)))
    → Stays old id clause → Stays new id clause
stays old new id clause log_is run lemmas kept was = record {
  held = ⊎_elim (λ there. there) (λ gone. absurd (both_ways (has_id (live_in old.log) id) was.given gone.0)) (kept id clause was.held);
  given = subst (λ (log : List ProofStep). has_id (live_in log) id ≡ false) (sym log_is)
      (subst (λ (live : List ℕ). has_id live id ≡ false) (sym (live_from-append [] old.log (logged old new))) (never_live old.vars old.database (live_in old.log) (logged old new) id was.given was.low lemmas));
  low = let more = last_grows old.vars old.database (logged old new) new.database run lemmas in omega (arith, was.low, more);
}

-- ---- ids above the last

never_high : (vars : ℕ) (d : Database) (live : List ℕ) (steps : List ProofStep) (new : Database) (id : ℕ) → has_id live id ≡ false → new.last < id → Run vars d steps new → AreLemmas vars d steps → has_id (live_from live steps) id ≡ false
never_high vars d live [] new id off high run lemmas = off
never_high vars d live (Addition own [] hints ∷ steps) new id off high run lemmas = never_high vars (after_step d (Addition own [] hints)) live steps new id off high run.1 lemmas.1
never_high vars d live (Addition own (l ∷ ls) hints ∷ steps) new id off high run lemmas =
    let grown : own ≤ new.last = last_grows vars (after_step d (Addition own (l ∷ ls) hints)) steps new run.1 lemmas.1 in
    never_high vars (after_step d (Addition own (l ∷ ls) hints)) (live ++ own ∷ []) steps new id (not_pushed live own id off (λ same. absurd (omega (arith, grown, high, same)))) high run.1 lemmas.1
never_high vars d live (Deletion own ids ∷ steps) new id off high run lemmas = never_high vars (after_step d (Deletion own ids)) (filter (λ k. not (has_id ids k)) live) steps new id (not_kept (λ k. not (has_id ids k)) live id off) high run.1 lemmas.1

pub still_low : (old new : Solving) → new.log ≡ old.log ++ logged old new → Run old.vars old.database (logged old new) new.database → AreLemmas old.vars old.database (logged old new) → AreLow old → AreLow new
still_low old new log_is run lemmas low id high =
    let grown = last_grows old.vars old.database (logged old new) new.database run lemmas in
    subst (λ (log : List ProofStep). has_id (live_in log) id ≡ false) (sym log_is)
    (subst (λ (live : List ℕ). has_id live id ≡ false) (sym (live_from-append [] old.log (logged old new)))
    (never_high old.vars old.database (live_in old.log) (logged old new) new.database id (low id (omega (arith, grown, high))) high run lemmas))

-- ---- a clause more that is given

module _ (old new : Solving) (more : List Literal) (log_is : new.log ≡ old.log) (last_is : new.database.last ≡ old.database.last + 1) (held_is : new.database.held ≡ with_clause old.database.held (old.database.last + 1) more) where
  not_live : (id : ℕ) → has_id (live_in old.log) id ≡ false → has_id (live_in new.log) id ≡ false
  not_live id off = subst (λ (log : List ProofStep). has_id (live_in log) id ≡ false) (sym log_is) off

  pub stays_given : (id : ℕ) (clause : List Literal) → Stays old id clause → Stays new id clause
  stays_given id clause was = record {
    held = subst (λ (h : Held). clause_at h id ≡ Some clause) (sym held_is) (clause_at-more old.database.held (old.database.last + 1) more id clause was.held);
    given = not_live id was.given;
    low = omega (arith, was.low, last_is);
  }

  -- which stays too
  pub given_stays : AreBelow old.database → AreLow old → Stays new (old.database.last + 1) more
  given_stays below low = record {
    held = subst (λ (h : Held). clause_at h (old.database.last + 1) ≡ Some more) (sym held_is) (found_new old.database.held (old.database.last + 1) more (below (old.database.last + 1) (omega arith)));
    given = not_live (old.database.last + 1) (low (old.database.last + 1) (omega arith));
    low = omega (arith, last_is);
  }

  pub low_given : AreLow old → AreLow new
  low_given low id high = not_live id (low id (omega (arith, last_is, high)))

  pub counter_given : (g : ℕ) → HoldsCounter old g → HoldsCounter new g
  counter_given g holds id clause at = stays_given id clause (holds id clause at)
