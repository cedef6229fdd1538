-- Hints, one after another.
use Rattle.std.proofs.Common.{◌≡◌, ℕ, ◌+◌, ◌<◌, List, ◌∷◌, sym, ap, ◌∙◌, subst, Some, ℤ, pos, negsuc, length, get_or, drop, arith, ◌++◌, append_assoc}
use Rattle.std.proofs.lemmas.List.{drop_more}
use Rattle.lrat_checker.specs.Extends.{Extends}
use Rattle.lrat_model.specs.Literal.{Literal}
use Rattle.lrat_model.specs.Clauses.{Held, clause_at}
use Rattle.lrat_model.specs.Propagation.{status, Conflict, Stops, Leaves, after_status, after_finding, take_hint, and_then, propagate}
use Rattle.lrat_model.specs.declared.step.ClauseStatus.TheVariants.{Forces, Unresolved}
use Rattle.lrat_model.specs.declared.step.StepFault.TheVariants.{NotUnit}
use Rattle.lrat_model.specs.declared.step.StepFault.{StepFault}
use Rattle.lrat_model.specs.Alike.{Alike}
use Rattle.lrat_model.proofs.AlikeLaws.{AreAlike, take_hint-alike}
use Rattle.lrat_checker.specs.Hints.{id_of}

-- a hint that forces a literal makes it true
pub takes_more : (held : Held) (trues : List Literal) (place id : ℕ) (hint : ℤ) (clause : List Literal) (l : Literal) → Some id ≡ id_of hint → Some clause ≡ clause_at held id → Forces l ≡ status trues clause → take_hint held trues place hint ≡ Leaves (l ∷ trues)
takes_more held trues place id (pos n) clause l names finds forces =
    let is : id ≡ n = cc in
    let found : clause_at held n ≡ Some clause = subst (λ k. clause_at held k ≡ Some clause) is (sym finds) in
    ap (after_finding trues place n) found ∙ ap (after_status trues place) (sym forces)
takes_more held trues place id (negsuc n) clause l names finds forces = cc

-- a hint stops whose clause has two literals that are not false
pub takes_none : (held : Held) (trues : List Literal) (place id : ℕ) (hint : ℤ) (clause : List Literal) → Some id ≡ id_of hint → Some clause ≡ clause_at held id → Unresolved ≡ status trues clause → take_hint held trues place hint ≡ Stops (NotUnit place)
takes_none held trues place id (pos n) clause names finds unsure =
    let is : id ≡ n = cc in
    let found : clause_at held n ≡ Some clause = subst (λ k. clause_at held k ≡ Some clause) is (sym finds) in
    ap (after_finding trues place n) found ∙ ap (after_status trues place) (sym unsure)
takes_none held trues place id (negsuc n) clause names finds unsure = cc

swapped : (xs ys : List Literal) → Alike xs ys → Alike ys xs
swapped xs ys alike m = sym (alike m)

-- what a hint gives at these literals, it gives at those that are alike
pub conflict_alike : (held : Held) (now trues : List Literal) (place : ℕ) (hint : ℤ) → Alike now trues → take_hint held trues place hint ≡ Conflict → take_hint held now place hint ≡ Conflict
conflict_alike held now trues place hint alike e = subst (λ end. AreAlike end (take_hint held now place hint)) e (take_hint-alike held trues now (swapped now trues alike) place hint)

pub stops_alike : (held : Held) (now trues : List Literal) (place : ℕ) (hint : ℤ) (fault : StepFault) → Alike now trues → take_hint held trues place hint ≡ Stops fault → take_hint held now place hint ≡ Stops fault
stops_alike held now trues place hint fault alike e = subst (λ end. AreAlike end (take_hint held now place hint)) e (take_hint-alike held trues now (swapped now trues alike) place hint)

pub leaves_alike : (held : Held) (now trues left new : List Literal) (place : ℕ) (hint : ℤ) → Alike now trues → take_hint held trues place hint ≡ Leaves left → Alike left new → (next : List Literal) × (take_hint held now place hint ≡ Leaves next) × Alike next new
leaves_alike held now trues left new place hint alike e left_new =
    let there : AreAlike (Leaves left) (take_hint held now place hint) = subst (λ end. AreAlike end (take_hint held now place hint)) e (take_hint-alike held trues now (swapped now trues alike) place hint) in
    (there.0, there.1, λ m. sym (there.2 m) ∙ left_new m)

-- the hint at a place, and those after it
pub propagate-at : (held : Held) (now : List Literal) (first i : ℕ) (hints : List ℤ) → i < length hints → propagate held now (first + i) (drop i hints) ≡ and_then (take_hint held now (first + i) (get_or hints i (pos 0))) (λ next. propagate held next (first + (i + 1)) (drop (i + 1) hints))
propagate-at held now first i hints within =
    let later : first + i + 1 ≡ first + (i + 1) = omega arith in
    ap (propagate held now (first + i)) (drop_more hints i (pos 0) within)
    ∙ ap (λ n. and_then (take_hint held now (first + i) (get_or hints i (pos 0))) (λ next. propagate held next n (drop (i + 1) hints))) later

module _ (held : Held) (now trues start : List Literal) (first i : ℕ) (hints : List ℤ) (within : i < length hints) (alike : Alike now trues) (so_far : propagate held now (first + i) (drop i hints) ≡ propagate held start first hints) where
  pub hints_conflict : take_hint held trues (first + i) (get_or hints i (pos 0)) ≡ Conflict → propagate held start first hints ≡ Conflict
  hints_conflict e =
      sym so_far ∙ propagate-at held now first i hints within
      ∙ ap (λ end. and_then end (λ next. propagate held next (first + (i + 1)) (drop (i + 1) hints))) (conflict_alike held now trues (first + i) (get_or hints i (pos 0)) alike e)

  pub hints_stop : (fault : StepFault) → take_hint held trues (first + i) (get_or hints i (pos 0)) ≡ Stops fault → propagate held start first hints ≡ Stops fault
  hints_stop fault e =
      sym so_far ∙ propagate-at held now first i hints within
      ∙ ap (λ end. and_then end (λ next. propagate held next (first + (i + 1)) (drop (i + 1) hints))) (stops_alike held now trues (first + i) (get_or hints i (pos 0)) fault alike e)

  pub hints_go_on : (new left : List Literal) → take_hint held trues (first + i) (get_or hints i (pos 0)) ≡ Leaves left → Alike left new → (next : List Literal) × Alike next new × (propagate held next (first + (i + 1)) (drop (i + 1) hints) ≡ propagate held start first hints)
  hints_go_on new left e left_new =
      let there : (next : List Literal) × (take_hint held now (first + i) (get_or hints i (pos 0)) ≡ Leaves next) × Alike next new = leaves_alike held now trues left new (first + i) (get_or hints i (pos 0)) alike e left_new in (
        there.0,
        there.2,
        sym (ap (λ end. and_then end (λ next. propagate held next (first + (i + 1)) (drop (i + 1) hints))) there.1) ∙ sym (propagate-at held now first i hints within) ∙ so_far,
      )

-- trails that grow one after another
pub extends_more : (a b c : List Literal) → Extends a b → Extends b c → Extends a c
extends_more a b c one two = (one.0 ++ two.0, two.1 ∙ ap (λ xs. xs ++ two.0) one.1 ∙ append_assoc a one.0 two.0)
