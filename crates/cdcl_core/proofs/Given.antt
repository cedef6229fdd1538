-- A clause that is given while nothing is decided.
use Rattle.std.proofs.Common.{◌≡◌, ◌≢◌, ℕ, ◌^◌, ◌<◌, true, false, List, [], ◌∷◌, ◌++◌, ⊎_elim, inl, sym, ap, ◌∙◌, subst, arith, length, get_or, take, length-append}
use Rattle.std.specs.Prelude.{◌⊎◌, slice_index, All}
use Rattle.std.proofs.lemmas.List.{take_all}
use Rattle.std.proofs.lemmas.Bool.{cases_lt}
use Rattle.std.proofs.Math.ListN.{get_or-append}
use Rattle.std.proofs.Math.Seq.{get_or-append_seam}
use Rattle.lrat_model.specs.Literal.{Literal, negated, same, has}
use Rattle.lrat_model.specs.Clauses.{Held, with_clause}
use Rattle.lrat_model.proofs.Literals.{has-first, has-push}
use Rattle.cdcl_core.specs.Search.{IsState, IsClosed}
use Rattle.cdcl_core.specs.Trail.{IsVariable}
use Rattle.cdcl_core.proofs.States.{state_back, state_push}
use Rattle.cdcl_core.proofs.FreePairs.{IsPairFor, free_queued}
use Rattle.cdcl_core.specs.declared.watches.Pair.{Pair}
use Rattle.cdcl_core.specs.Watches.{IsKept, IsQueued}
use Rattle.cdcl_core.proofs.Visits.{queued_more}
use Rattle.cdcl_core.proofs.Forced.{forces_only}
use Rattle.cdcl_core.proofs.Grows.{queued_with}
use Rattle.cdcl_core.proofs.Lemmas.{clause_at-last}

-- one literal more that a clause forces
pub undecided_more : (trues : List Literal) (reasons : List ℕ) → length reasons ≡ length trues → ((p : ℕ) → p < length trues → slice_index reasons p ≢ 0) → (l : Literal) (id : ℕ) → 0 < id → (p : ℕ) → p < length (trues ++ l ∷ []) → slice_index (reasons ++ id ∷ []) p ≢ 0
undecided_more trues reasons long undecided l id some p less decided =
    ⊎_elim
    (λ old. undecided p old (sym (get_or-append reasons (id ∷ []) 0 p (omega (arith, old, long))) ∙ decided))
    (λ more.
    let is : p ≡ length reasons = omega (arith, more, less, length-append trues (l ∷ []), long) in
    omega (arith, some, sym (ap (λ k. get_or (reasons ++ id ∷ []) k 0) is ∙ get_or-append_seam reasons id [] 0) ∙ decided))
    (cases_lt p (length trues))

module _ (n : ℕ) (held : Held) (trues : List Literal) (reasons : List ℕ) (s : IsState n held trues reasons) (undecided : (p : ℕ) → p < length trues → slice_index reasons p ≢ 0) (id : ℕ) (lits : List Literal) where
  whole : take (length trues) trues ≡ trues
  whole = take_all (length trues) trues (omega arith)

  whole_reasons : take (length trues) reasons ≡ reasons
  whole_reasons = take_all (length trues) reasons (omega (arith, s.trail.long))

  none_closed : IsClosed (with_clause held id lits) trues reasons
  none_closed place within decided = absurd (undecided place within decided)

  -- the search stands with the clause held as it stood
  pub given_state : IsState n (with_clause held id lits) trues reasons
  given_state =
      subst (λ ls. IsState n (with_clause held id lits) ls reasons) whole
      (subst (λ rs. IsState n (with_clause held id lits) (take (length trues) trues) rs) whole_reasons
      (state_back n held trues reasons s (length trues) id lits
      (subst (λ ls. IsClosed (with_clause held id lits) ls (take (length trues) reasons)) (sym whole) (subst (λ rs. IsClosed (with_clause held id lits) trues rs) (sym whole_reasons) none_closed))))

  pub given_queued : (pairs : List Pair) (pair : Pair) (head : ℕ) → length pairs ≡ length held → IsQueued held pairs trues reasons head → IsKept (take head trues) trues lits pair → IsQueued (with_clause held id lits) (pairs ++ pair ∷ []) trues reasons head
  given_queued pairs pair head long q kept = queued_with held pairs id lits pair long trues reasons head q kept (λ p less decided. absurd (undecided p less decided))

  -- the pair are two literals that are not false, or it is counted
  pub given_two : (pairs : List Pair) (pair : Pair) (a b : Literal) (head : ℕ) → length pairs ≡ length held → IsQueued held pairs trues reasons head → IsPairFor a b pair → same a b ≡ false → has trues (negated a) ≡ false → has trues (negated b) ≡ false
      → IsQueued (with_clause held id lits) (pairs ++ pair ∷ []) trues reasons head
  given_two pairs pair a b head long q either differ free_a free_b = free_queued n held trues reasons s id lits pairs pair head long q a b differ free_a free_b either

  module _ (l : Literal) (here : has lits l ≡ true) (free : has trues (negated l) ≡ false) (others : (m : Literal) → has lits m ≡ true → (m ≡ l) ⊎ (has trues (negated m) ≡ true)) (left : has trues l ≡ false) (range : IsVariable n l) (below : All (λ e. e.0 < id) held) (some : 0 < id) where
    pub given_forced_state : id < 2 ^ 63 → IsState n (with_clause held id lits) (trues ++ l ∷ []) (reasons ++ id ∷ [])
    given_forced_state less = state_push n (with_clause held id lits) trues reasons given_state id lits l (clause_at-last held id lits below) (forces_only trues lits l here free others) left range some less

    pub given_forced_queued : (pairs : List Pair) (head : ℕ) → length pairs ≡ length held → IsQueued held pairs trues reasons head → IsQueued (with_clause held id lits) (pairs ++ record { first = l; second = l; is_counted = false } ∷ []) (trues ++ l ∷ []) (reasons ++ id ∷ []) head
    given_forced_queued pairs head long q =
        let pushed = queued_more held pairs trues reasons head q s.trail.long l id (λ none. absurd (omega (arith, none, some))) in
        queued_with held pairs id lits (record { first = l; second = l; is_counted = false }) long (trues ++ l ∷ []) (reasons ++ id ∷ []) head pushed
        (inl (l, here, has-push trues l l ∙ has-first l trues))
        (λ p less decided. absurd (undecided_more trues reasons s.trail.long undecided l id some p less decided))
