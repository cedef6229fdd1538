-- A lemma that is held: the trail is cut, and its asserting literal made true.
use Rattle.std.proofs.Common.{◌≡◌, ℕ, ◌+◌, ◌^◌, ◌<◌, ◌≤◌, false, List, [], ◌∷◌, ◌++◌, ⊎_elim, inl, inr, refl, sym, ap, ◌∙◌, subst, cond, arith, length, get_or, take, length-append, length-take, Some, None}
use Rattle.std.specs.Prelude.{◌==◌, slice_index, All}
use Rattle.std.proofs.Math.ListN.{get_or-append}
use Rattle.std.proofs.Math.Seq.{get_or-append_seam}
use Rattle.std.proofs.lemmas.List.{get_or-take, take-append-le}
use Rattle.std.proofs.lemmas.Bool.{cases_lt, eq-eqb, ne_eqb, true≢false, false_from_ne_true}
use Rattle.std.proofs.lemmas.List.Elements.{All-head, All-tail}
use Rattle.lrat_model.specs.Literal.{Literal, negated, has}
use Rattle.lrat_model.specs.Clauses.{Held, clause_at, with_clause}
use Rattle.lrat_model.proofs.Literals.{has-first, has-push, negated-negated, variable_of-negated}
use Rattle.cdcl_core.specs.Search.{IsState, IsClosed}
use Rattle.cdcl_core.specs.Trail.{IsVariable}
use Rattle.cdcl_core.proofs.States.{state_back, state_push}
use Rattle.cdcl_core.proofs.Jumps.{take_mono}
use Rattle.cdcl_core.proofs.Tops.{take_within}
use Rattle.cdcl_core.specs.declared.watches.Pair.{Pair}
use Rattle.cdcl_core.specs.Watches.{IsKept, IsQueued, IsAsserting}
use Rattle.cdcl_core.proofs.Visits.{queued_more}
use Rattle.cdcl_core.proofs.Forced.{forces_only}
use Rattle.cdcl_core.proofs.Grows.{take_take, queued_back, queued_with}

-- the last clause is found under an id above all others
pub clause_at-last : (held : Held) (id : ℕ) (lits : List Literal) → All (λ e. e.0 < id) held → clause_at (with_clause held id lits) id ≡ Some lits
clause_at-last [] id lits below = ap (λ b. cond b (Some lits) None) (eq-eqb id id refl)
clause_at-last (e ∷ held) id lits below =
    let other : (e.0 == id) ≡ false = ne_eqb e.0 id (λ same_id. absurd (omega (arith, same_id, All-head (λ (x : ℕ × List Literal). x.0 < id) e held below))) in
    ap (λ b. cond b (Some e.1) (clause_at (with_clause held id lits) id)) other ∙ clause_at-last held id lits (All-tail (λ (x : ℕ × List Literal). x.0 < id) e held below)

module _ (n : ℕ) (held : Held) (trues : List Literal) (reasons : List ℕ) (s : IsState n held trues reasons) (id : ℕ) (lits : List Literal) (pair : Pair) (jump : ℕ) (within : jump < length trues) (a : IsAsserting trues reasons jump lits pair) where
  -- the asserting literal is open where the trail is cut, and in range
  pub first_open : has (take jump trues) pair.first ≡ false
  first_open = false_from_ne_true (has (take jump trues) pair.first) (λ h. true≢false (sym (take_within jump trues pair.first h) ∙ ap (λ k. has trues k) (sym (negated-negated pair.first)) ∙ s.trail.consistent (negated pair.first) a.first_false))

  pub first_range : IsVariable n pair.first
  first_range = subst (λ k. (0 < k) × (k ≤ n)) (variable_of-negated pair.first) (s.range (negated pair.first) a.first_false)

  pub lemma_state : IsClosed (with_clause held id lits) (take jump trues) (take jump reasons) → clause_at (with_clause held id lits) id ≡ Some lits → 0 < id → id < 2 ^ 63 → IsState n (with_clause held id lits) (take jump trues ++ pair.first ∷ []) (take jump reasons ++ id ∷ [])
  lemma_state closed at some less =
      state_push n (with_clause held id lits) (take jump trues) (take jump reasons) (state_back n held trues reasons s jump id lits closed) id lits pair.first at
      (forces_only (take jump trues) lits pair.first a.first_in a.first_free a.others_false) first_open first_range some less

  pub lemma_queued : (pairs : List Pair) (head : ℕ) → IsQueued held pairs trues reasons head → length pairs ≡ length held → slice_index reasons jump ≡ 0 → 0 < id → IsQueued (with_clause held id lits) (pairs ++ pair ∷ []) (take jump trues ++ pair.first ∷ []) (take jump reasons ++ id ∷ []) jump
  lemma_queued pairs head q long decision some =
      let front : List Literal = take jump trues in
      let long_front : length front ≡ jump = omega (arith, length-take jump trues, within) in
      let long_reasons : length (take jump reasons) ≡ jump = omega (arith, length-take jump reasons, within, s.trail.long) in
      let cut = queued_back held pairs trues reasons head q jump within decision in
      let pushed = queued_more held pairs front (take jump reasons) jump cut (long_reasons ∙ sym long_front) pair.first id (λ none. absurd (omega (arith, none, some))) in
      queued_with held pairs id lits pair long (front ++ pair.first ∷ []) (take jump reasons ++ id ∷ []) jump pushed
      (inl (pair.first, a.first_in, has-push front pair.first pair.first ∙ has-first pair.first front))
      (λ p less decided.
      let all : p < jump + 1 = omega (arith, less, length-append front (pair.first ∷ []), long_front) in
      ⊎_elim
      (λ below.
      let own : slice_index reasons p ≡ 0 = sym (get_or-append (take jump reasons) (id ∷ []) 0 p (omega (arith, below, long_reasons)) ∙ get_or-take jump reasons p 0 below) ∙ decided in
      let same_front : take p (front ++ pair.first ∷ []) ≡ take p trues = take-append-le p front (pair.first ∷ []) (omega (arith, below, long_front)) ∙ take_take p jump trues (omega (arith, below)) in
      let free = a.second_free p below own in
      subst (λ ls. IsKept ls ls lits pair) (sym same_front) (inr (inl (record {
        differ = free.0;
        first_free = false_from_ne_true (has (take p trues) (negated pair.first)) (λ h. true≢false (sym (take_mono p jump trues (omega (arith, below)) (negated pair.first) h) ∙ a.first_free));
        second_free = free.1;
      }))))
      (λ above.
      let is : p ≡ jump = omega (arith, all, above) in
      let own : slice_index (take jump reasons ++ id ∷ []) p ≡ id = ap (λ k. get_or (take jump reasons ++ id ∷ []) k 0) (is ∙ sym long_reasons) ∙ get_or-append_seam (take jump reasons) id [] 0 in
      absurd (omega (arith, sym own ∙ decided, some)))
      (cases_lt p jump))
