-- The literal that a clause forces.
use Rattle.std.proofs.Common.{◌≡◌, true, false, not, cond, List, [], ◌∷◌, subst}
use Rattle.std.specs.List.{list_all}
use Rattle.std.proofs.lemmas.Bool.{not-true}
use Rattle.lrat_model.specs.Literal.{Literal, negated, same, has}
use Rattle.lrat_model.specs.Propagation.{not_false, status_of, status}
use Rattle.lrat_model.specs.declared.step.ClauseStatus.TheVariants.{Forces, Unresolved}
use Rattle.lrat_model.proofs.Literals.{has-first, has-filter}

first_forced : (ls : List Literal) (l : Literal) → status_of ls ≡ Forces l → has ls l ≡ true
first_forced [] l says = cc
first_forced (x ∷ xs) l says =
    elim (list_all (same x) xs) as (λ b. cond b (Forces x) Unresolved ≡ Forces l → has (x ∷ xs) l ≡ true) [
      | true ↦ λ is. (let same_one : x ≡ l = cc in subst (λ k. has (x ∷ xs) k ≡ true) same_one (has-first x xs))
      | false ↦ λ is. cc
    ] says

-- it is in the clause, and not false
pub forced_there : (trues clause : List Literal) (l : Literal) → status trues clause ≡ Forces l → has clause l ≡ true
forced_there trues clause l says = (has-filter (λ k. not (has trues (negated k))) clause l (first_forced (not_false trues clause) l says)).0

pub forced_open : (trues clause : List Literal) (l : Literal) → status trues clause ≡ Forces l → has trues (negated l) ≡ false
forced_open trues clause l says = not-true _ (has-filter (λ k. not (has trues (negated k))) clause l (first_forced (not_false trues clause) l says)).1
