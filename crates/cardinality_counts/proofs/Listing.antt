-- Gates that a table names for the inputs so far.
use Rattle.std.proofs.Common.{◌≡◌, ℕ, ◌+◌, ◌<◌, true, List, [], ◌∷◌, length, get_or, take, subst, sym, ◌∙◌, ⊎_elim, inl, inr, arith}
use Rattle.std.specs.Prelude.{◌==◌}
use Rattle.std.proofs.lemmas.Bool.{cases_Bool, false≢true, eqb-true, or_cases}
use Rattle.std.proofs.lemmas.List.Folds.{list_any_more}
use Rattle.cardinality_counts.specs.Gates.{has_number}
use Rattle.cardinality_counts.specs.Counts.{times}

-- what is among these is named there
pub times_some : (list : List ℕ) (g : ℕ) → has_number list g ≡ true → 0 < times list g
times_some [] g is = absurd (false≢true is)
times_some (k ∷ ks) g is = elim (cases_Bool (k == g)) [
  | inl here ↦ rw here (omega arith)
  | inr other ↦ rw other (times_some ks g (rw other at is))
]

-- P holds of the first inputs, and of the next
pub more_listed : (P : ℕ → Type 0) (xs : List ℕ) (i : ℕ) → i < length xs → ((x : ℕ) → has_number (take i xs) x ≡ true → P x) → P (get_or xs i 0) → (x : ℕ) → has_number (take (i + 1) xs) x ≡ true → P x
more_listed P xs i inside before next = λ x is.
    ⊎_elim
    (λ earlier. before x earlier)
    (λ here. subst P (eqb-true (get_or xs i 0) x here) next)
    (or_cases (has_number (take i xs) x) (get_or xs i 0 == x) (sym (list_any_more (λ y. y == x) xs i 0 inside) ∙ is))
