-- The counts of the clauses held, while clauses come and go.
use Rattle.std.proofs.Common.{◌≡◌, ℕ, ◌<◌, ◌≤◌, ◌+◌, ◌-◌, true, false, ◌||◌, List, [], ◌∷◌, ◌++◌, length, refl, sym, ap, ◌∙◌, subst, arith, cond, Some, None, ⊎_elim, append_assoc, Result, Ok, Err, OnOk}
use Rattle.std.specs.Prelude.{◌==◌, is_none, is_err}
use Rattle.std.proofs.lemmas.Bool.{eqb-true, eq-eqb, or_cases, or_left, or_right, false≢true, false_from_ne_true, cases_eq}
use Rattle.std.proofs.lemmas.List.{append-nil}
use Rattle.lrat_model.specs.Literal.{Literal}
use Rattle.lrat_model.specs.Clauses.{Held, clause_at, has_id, with_clause, without}
use Rattle.lrat_model.specs.Steps.{deletion_fault}
use Rattle.rat_candidates.specs.Occurrences.{times, occurrences, occurrences_in}
use Rattle.lrat_model.specs.declared.step.StepFault.TheVariants.{NoSuchClause}
use Rattle.rat_candidates.proofs.OccurrenceLaws.{occurrences-with_clause, occurrences-without, in-one_more, has-one_more}
use Rattle.clause_store.specs.Nearest.{IsFirstAbove}
use Rattle.rat_candidates.specs.Counted.{IsOver, AreCounted, AreUpTo, times_found, listed}
use Rattle.rat_candidates.specs.Rising.{IdsRise}
use Rattle.rat_candidates.proofs.MissingLaws.{rise-tail, found_first, found_later, low_or_high}
use Rattle.rat_candidates.proofs.CountLaws.{over_lower}

pub in-none : (l : Literal) (held : Held) → occurrences_in l [] held ≡ 0
in-none l [] = refl
in-none l (e ∷ held) = omega (arith, in-none l held)

-- ---- all clauses

all_counted : (l : Literal) (ids : List ℕ) (held : Held) → IdsRise held → ((k : ℕ) (clause : List Literal) → clause_at held k ≡ Some clause → has_id ids k ≡ true) → occurrences l held ≤ occurrences_in l ids held
all_counted l ids [] up each = omega arith
all_counted l ids (e ∷ held) up each =
    let here : has_id ids e.0 ≡ true = each e.0 e.1 (found_first e held) in
    let rest : occurrences l held ≤ occurrences_in l ids held = all_counted l ids held (rise-tail e held up) (λ k clause at. each k clause (found_later e held up k clause at)) in
    omega (arith, rest, ap (λ b. cond b (times l e.1) 0) here)

pub none_yet : (held : Held) → clause_at held 0 ≡ None → AreUpTo held 0 []
none_yet held none = record {
  below = λ k there. absurd (false≢true there);
  each = λ k clause at low. (let zero_is : k ≡ 0 = omega (arith, low) in let found : clause_at held 0 ≡ Some clause = subst (λ n. clause_at held n ≡ Some clause) zero_is at in absurd cc);
}

module _ (held : Held) (above next : ℕ) (clause : List Literal) (ids : List ℕ) (nearest : IsFirstAbove held above next clause) (are : AreUpTo held above ids) where
  pub next_new : has_id ids next ≡ false
  next_new = false_from_ne_true (has_id ids next) (λ there. absurd (omega (arith, are.below next there, nearest.above)))

  pub up_to_next : AreUpTo held next (ids ++ next ∷ [])
  up_to_next = record {
    below = λ k there. ⊎_elim (λ old. (let low : k ≤ above = are.below k old in omega (arith, low, nearest.above))) (λ last. (let is : next ≡ k = eqb-true next k last in omega (arith, is))) (or_cases (has_id ids k) (next == k) (sym (has-one_more ids next k) ∙ there));
    each = λ k other at low. has-one_more ids next k
        ∙ ⊎_elim (λ same. or_right (has_id ids k) (next == k) (eq-eqb next k (sym same)))
        (λ differ. ⊎_elim (λ early. or_left (has_id ids k) (next == k) (are.each k other at early))
        (λ late. (let none : clause_at held k ≡ None = nearest.nothing_between k late (omega (arith, low, differ)) in absurd cc)) (low_or_high k above)) (cases_eq k next);
  }

  pub next_over : (counts : List ℕ) (l : Literal) → IdsRise held → IsOver counts l (occurrences_in l ids held + times l clause) → IsOver counts l (occurrences_in l (ids ++ next ∷ []) held)
  next_over counts l up over = subst (IsOver counts l) (sym (in-one_more l ids next clause held up nearest.there next_new)) over

pub all_over : (held : Held) (above : ℕ) (ids : List ℕ) → IdsRise held → AreUpTo held above ids → ((k : ℕ) → above < k → clause_at held k ≡ None) → (counts : List ℕ) (l : Literal) → IsOver counts l (occurrences_in l ids held) → IsOver counts l (occurrences l held)
all_over held above ids up are none counts l over =
    over_lower counts l (occurrences_in l ids held) (occurrences l held)
    (all_counted l ids held up (λ k clause at. ⊎_elim (λ low. are.each k clause at low) (λ high. (let empty : clause_at held k ≡ None = none k high in absurd cc)) (low_or_high k above))) over

-- ---- clauses taken out

listed-is : (l : Literal) (held : Held) → IdsRise held → (before ids : List ℕ) → deletion_fault held before ids ≡ None → occurrences_in l (before ++ ids) held ≡ occurrences_in l before held + listed l held ids
listed-is l held up before [] none = omega (arith, ap (λ xs. occurrences_in l xs held) (append-nil before))
listed-is l held up before (id ∷ ids) none =
    elim (clause_at held id) as (λ o. clause_at held id ≡ o → cond (is_none o || has_id before id) (Some (NoSuchClause id)) (deletion_fault held (before ++ id ∷ []) ids) ≡ None → occurrences_in l (before ++ id ∷ ids) held ≡ occurrences_in l before held + (times_found l o + listed l held ids)) [
      | None ↦ λ _ h. absurd cc
      | Some clause ↦ λ at h. elim (has_id before id) as (λ b. has_id before id ≡ b → cond b (Some (NoSuchClause id)) (deletion_fault held (before ++ id ∷ []) ids) ≡ None → occurrences_in l (before ++ id ∷ ids) held ≡ occurrences_in l before held + (times l clause + listed l held ids)) [
        | true ↦ λ _ k. absurd cc
        | false ↦ λ new k.
            let one : occurrences_in l (before ++ id ∷ []) held ≡ occurrences_in l before held + times l clause = in-one_more l before id clause held up at new in
            let rest : occurrences_in l ((before ++ id ∷ []) ++ ids) held ≡ occurrences_in l (before ++ id ∷ []) held + listed l held ids = listed-is l held up (before ++ id ∷ []) ids k in
            omega (arith, one, rest, ap (λ xs. occurrences_in l xs held) (append_assoc before (id ∷ []) ids))
      ] refl h
    ] refl none

pub counted_less : (old new : List ℕ) (held : Held) (ids : List ℕ) → IdsRise held → deletion_fault held [] ids ≡ None → ((l : Literal) (n : ℕ) → IsOver old l n → IsOver new l (n - listed l held ids)) → AreCounted old held → AreCounted new (without held ids)
counted_less old new held ids up none over counted = λ l.
    let left : occurrences l held - listed l held ids ≡ occurrences l (without held ids) = omega (arith, occurrences-without l held ids, listed-is l held up [] ids none, in-none l held) in
    subst (IsOver new l) left (over l (occurrences l held) (counted l))

-- ---- a clause more

pub counted_more : (old new : List ℕ) (held : Held) (id : ℕ) (clause : List Literal) → ((l : Literal) (n : ℕ) → IsOver old l n → IsOver new l (n + times l clause)) → AreCounted old held → AreCounted new (with_clause held id clause)
counted_more old new held id clause over counted = λ l. subst (IsOver new l) (sym (occurrences-with_clause l held id clause)) (over l (occurrences l held) (counted l))

-- what holds of an answer that is known
pub where_ok : {A E : Type 0} (r : Result A E) (P : Type 0) → is_err r ≡ false → OnOk r P → P
where_ok (Ok x) P ok p = p
where_ok (Err e) P ok p = cc
