-- A search that goes back to a decision, and one that holds more clauses while nothing is decided.
use Rattle.std.proofs.Common.{◌≡◌, ◌≢◌, ℕ, zero, suc, ◌+◌, ◌^◌, ◌<◌, true, false, cond, List, [], ◌∷◌, sym, ap, ◌∙◌, subst, arith, length, take, length-take, get_or, Some}
use Rattle.std.specs.Prelude.{◌==◌, slice_index, All, AllPairs}
use Rattle.std.proofs.lemmas.List.{get_or-take, get_or_default, take_all, take_more}
use Rattle.lrat_model.specs.Literal.{Literal}
use Rattle.lrat_model.specs.Clauses.{Held, clause_at, with_clause}
use Rattle.cdcl_core.specs.Fixpoint.{IsFixpoint}
use Rattle.cdcl_core.specs.Search.{IsClosed, IsState}
use Rattle.cdcl_core.specs.Watches.{id_at, lits_at}
use Rattle.cdcl_core.proofs.Grows.{take_take}
use Rattle.cdcl_core.proofs.Learnt.{IsTrail-front}
use Rattle.cdcl_core.proofs.Tops.{take_within}

pub state_front : (n : ℕ) (held more : Held) → ((k : ℕ) (clause : List Literal) → clause_at held k ≡ Some clause → clause_at more k ≡ Some clause) → (trues : List Literal) (reasons : List ℕ) → IsState n held trues reasons
    → (jump : ℕ) → IsClosed more (take jump trues) (take jump reasons) → IsState n more (take jump trues) (take jump reasons)
state_front n held more kept trues reasons s jump closed = record {
  trail = IsTrail-front held more kept trues reasons s.trail jump;
  closed = closed;
  range = λ m h. s.range m (take_within jump trues m h);
  small = λ i d within.
      let inside : (i < jump) × (i < length reasons) = (omega (arith, length-take jump reasons), omega (arith, length-take jump reasons)) in
      subst (λ r. r < 2 ^ 63) (sym (get_or-take jump reasons i d inside.0)) (s.small i d inside.1);
}

-- back to a decision
pub state_cut : (n : ℕ) (held : Held) (trues : List Literal) (reasons : List ℕ) → IsState n held trues reasons → (jump : ℕ) → IsState n held (take jump trues) (take jump reasons)
state_cut n held trues reasons s jump = state_front n held held (λ k clause at. at) trues reasons s jump
    (λ place within decided.
    let inside : (place < jump) × (place < length trues) = (omega (arith, length-take jump trues), omega (arith, length-take jump trues)) in
    subst (λ ls. IsFixpoint held ls) (sym (take_take place jump trues (omega (arith, inside.0))))
    (s.closed place inside.1 (sym (get_or-take jump reasons place 0 inside.0) ∙ decided)))

-- with more clauses, where nothing is decided
pub state_more : (n : ℕ) (held more : Held) → ((k : ℕ) (clause : List Literal) → clause_at held k ≡ Some clause → clause_at more k ≡ Some clause) → (trues : List Literal) (reasons : List ℕ) → IsState n held trues reasons
    → ((p : ℕ) → p < length trues → slice_index reasons p ≢ 0) → IsState n more trues reasons
state_more n held more kept trues reasons s undecided =
    let whole : take (length trues) trues ≡ trues = take_all (length trues) trues (omega arith) in
    let whole_reasons : take (length trues) reasons ≡ reasons = take_all (length trues) reasons (omega (arith, s.trail.long)) in
    let none : IsClosed more trues reasons = λ place within decided. absurd (undecided place within decided) in
    subst (λ ls. IsState n more ls reasons) whole
    (subst (λ rs. IsState n more (take (length trues) trues) rs) whole_reasons
    (state_front n held more kept trues reasons s (length trues)
    (subst (λ ls. IsClosed more ls (take (length trues) reasons)) (sym whole) (subst (λ rs. IsClosed more trues rs) (sym whole_reasons) none))))

-- what the first clauses have all have
pub clause_at-take : (p : ℕ) (held : Held) (k : ℕ) (clause : List Literal) → clause_at (take p held) k ≡ Some clause → clause_at held k ≡ Some clause
clause_at-take zero held k clause at = cc
clause_at-take (suc p) [] k clause at = at
clause_at-take (suc p) (e ∷ held) k clause at =
    elim (e.0 == k) as (λ b. cond b (Some e.1) (clause_at (take p held) k) ≡ Some clause → cond b (Some e.1) (clause_at held k) ≡ Some clause) [
      | true ↦ λ is. is
      | false ↦ λ is. clause_at-take p held k clause is
    ] at

-- the next clause after the first ones
pub take_next : (held : Held) (p : ℕ) → p < length held → take (p + 1) held ≡ with_clause (take p held) (id_at held p) (lits_at held p)
take_next held p within = take_more held p (0, []) within

pub front_below : (held : Held) → AllPairs (λ (e f : ℕ × List Literal). e.0 < f.0) held → (p : ℕ) → p < length held → All (λ e. e.0 < id_at held p) (take p held)
front_below held rise p within i d inside =
    let less : (i < p) × (i < length held) = (omega (arith, length-take p held), omega (arith, length-take p held)) in
    subst (λ (e : ℕ × List Literal). e.0 < id_at held p) (sym (get_or-take p held i d less.0)) (below less.0 less.1)
  where
    below : i < p → i < length held → (get_or held i d).0 < id_at held p
    below less there = omega (arith, rise i p (0, []) less within, ap (λ (e : ℕ × List Literal). e.0) (get_or_default held i d (0, []) there))
