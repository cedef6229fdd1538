-- What holds of the items of a list so far.
use Rattle.std.proofs.Common.{◌≡◌, ℕ, ◌+◌, ◌<◌, ◌≤◌, List, length, get_or, subst, ◌∙◌, ⊎_elim, arith}
use Rattle.std.proofs.lemmas.List.{get_or_default}
use Rattle.std.proofs.lemmas.Bool.{cases_lt}

-- P holds of the first items, this many
abbrev pub AllBefore : {A : Type 0} → (A → Type 0) → List A → ℕ → Type 0
AllBefore {A} P xs n = (i : ℕ) (d : A) → i < n → i < length xs → P (get_or xs i d)

pub all_before_more : {A : Type 0} (P : A → Type 0) (xs : List A) (n : ℕ) → AllBefore P xs n → (x : A) → x ≡ get_or xs n x → P x → AllBefore P xs (n + 1)
all_before_more {A} P xs n before x is here = λ i d less within.
    ⊎_elim
    (λ (earlier : i < n). before i d earlier within)
    (λ (late : n ≤ i).
    let at : n ≡ i = omega (arith, late, less) in
    let moved : x ≡ get_or xs i x = subst (λ (k : ℕ). x ≡ get_or xs k x) at is in
    subst P (moved ∙ get_or_default xs i x d within) here)
    (cases_lt i n)
