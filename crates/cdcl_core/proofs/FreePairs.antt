-- A clause that begins to be watched where two of its literals are not false.
use Rattle.std.proofs.Common.{◌≡◌, ℕ, true, false, List, [], ◌∷◌, ◌++◌, ⊎_elim, inl, inr, ap, cond, Bool, sym, ◌∙◌, subst, arith, length, take}
use Rattle.std.specs.Prelude.{◌⊎◌}
use Rattle.std.proofs.lemmas.List.{take_all}
use Rattle.std.proofs.lemmas.Bool.{true≢false, false_from_ne_true}
use Rattle.lrat_model.specs.Literal.{Literal, negated, same, has}
use Rattle.lrat_model.specs.Clauses.{Held, with_clause}
use Rattle.lrat_model.proofs.Literals.{same-itself}
use Rattle.cdcl_core.specs.Search.{IsState, IsClosed}
use Rattle.cdcl_core.proofs.States.{state_back}
use Rattle.cdcl_core.proofs.Tops.{take_within}
use Rattle.cdcl_core.specs.declared.watches.Pair.{Pair}
use Rattle.cdcl_core.specs.Watches.{IsOpenPair, IsCounted, IsQueued}
use Rattle.cdcl_core.proofs.Fixpoints.{fixpoint_with_lemma}
use Rattle.cdcl_core.proofs.Grows.{queued_with}

-- two literals as they are watched, or a clause that is counted
abbrev pub IsPairFor : Literal → Literal → Pair → Type 0
IsPairFor a b pair = ((pair.first ≡ a) × (pair.second ≡ b)) ⊎ IsCounted pair

-- what a clause with two literals watches, as `pair_for` tells
module _ {is_set : Bool} (a b : Literal) (pair : Pair) (first : pair.first ≡ a) (second : pair.second ≡ cond is_set a b) (counted : pair.is_counted ≡ is_set) where
  pub pair_for_either : IsPairFor a b pair
  pair_for_either = either is_set second counted
    where
      either : (t : Bool) → pair.second ≡ cond t a b → pair.is_counted ≡ t → IsPairFor a b pair
      either true e is = inr (is, ap (λ k. same k pair.second) first ∙ ap (λ k. same a k) e ∙ same-itself a)
      either false e is = inl (first, e)

  pub pair_for_counted : pair.is_counted ≡ true → same pair.first pair.second ≡ true
  pair_for_counted is = ap (λ k. same k pair.second) first ∙ ap (λ k. same a k) (second ∙ ap (λ t. cond t a b) (sym counted ∙ is)) ∙ same-itself a

  -- each is one of the two
  pub pair_for_second : (P : Literal → Type 0) → P a → P b → P pair.second
  pair_for_second P at_a at_b = either is_set second
    where
      either : (t : Bool) → pair.second ≡ cond t a b → P pair.second
      either true e = subst P (sym e) at_a
      either false e = subst P (sym e) at_b

module _ (n : ℕ) (held : Held) (trues : List Literal) (reasons : List ℕ) (s : IsState n held trues reasons) (id : ℕ) (lits : List Literal) (pairs : List Pair) (pair : Pair) (head : ℕ) (long : length pairs ≡ length held) (q : IsQueued held pairs trues reasons head) (a b : Literal) (differ : same a b ≡ false) (free_a : has trues (negated a) ≡ false) (free_b : has trues (negated b) ≡ false) where
  -- what is not true is not true on a front
  free_at : (p : ℕ) (k : Literal) → has trues (negated k) ≡ false → has (take p trues) (negated k) ≡ false
  free_at p k free = false_from_ne_true (has (take p trues) (negated k)) (λ h. true≢false (sym (take_within p trues (negated k) h) ∙ free))

  -- the pair are the two literals, or it is counted
  pub free_queued : IsPairFor a b pair → IsQueued (with_clause held id lits) (pairs ++ pair ∷ []) trues reasons head
  free_queued either = queued_with held pairs id lits pair long trues reasons head q (inr (open_at head)) (λ p less decided. inr (open_at p))
    where
      open_at : (p : ℕ) → IsOpenPair (take p trues) pair ⊎ IsCounted pair
      open_at p = ⊎_elim
          (λ both. inl (record {
            differ = ap (λ k. same k pair.second) both.0 ∙ ap (λ k. same a k) both.1 ∙ differ;
            first_free = ap (λ k. has (take p trues) (negated k)) both.0 ∙ free_at p a free_a;
            second_free = ap (λ k. has (take p trues) (negated k)) both.1 ∙ free_at p b free_b;
          }))
          (λ counted. inr counted) either

  module _ (has_a : has lits a ≡ true) (has_b : has lits b ≡ true) where
    free_closed : IsClosed (with_clause held id lits) trues reasons
    free_closed p within decided = fixpoint_with_lemma held (take p trues) (s.closed p within decided) id lits a b has_a has_b differ (free_at p a free_a) (free_at p b free_b)

    pub free_state : IsState n (with_clause held id lits) trues reasons
    free_state =
        let whole : take (length trues) trues ≡ trues = take_all (length trues) trues (omega arith) in
        let whole_reasons : take (length trues) reasons ≡ reasons = take_all (length trues) reasons (omega (arith, s.trail.long)) in
        subst (λ ls. IsState n (with_clause held id lits) ls reasons) whole
        (subst (λ rs. IsState n (with_clause held id lits) (take (length trues) trues) rs) whole_reasons
        (state_back n held trues reasons s (length trues) id lits
        (subst (λ ls. IsClosed (with_clause held id lits) ls (take (length trues) reasons)) (sym whole) (subst (λ rs. IsClosed (with_clause held id lits) trues rs) (sym whole_reasons) free_closed))))
