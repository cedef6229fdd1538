-- What holds of the items of a list so far, and from a place on.
use Rattle.std.proofs.Common.{◌≡◌, ◌≢◌, ℕ, ◌+◌, ◌-◌, ◌<◌, ◌≤◌, List, All, length, take, drop, get_or, subst, sym, ap, ◌∙◌, ⊎_elim, arith, length-drop}
use Rattle.std.proofs.lemmas.List.{get_or_default, get_or-drop, take_all}
use Rattle.std.proofs.lemmas.Bool.{cases_lt}

-- P holds of the first items, this many
abbrev pub AllBefore : {A : Type 0} → (A → Type 0) → List A → ℕ → Type 0
AllBefore {A} P xs n = (i : ℕ) (d : A) → i < n → i < length xs → P (get_or xs i d)

pub all_before_more : {A : Type 0} (P : A → Type 0) (xs : List A) (n : ℕ) → AllBefore P xs n → (x : A) → x ≡ get_or xs n x → P x → AllBefore P xs (n + 1)
all_before_more {A} P xs n before x is here = λ i d less within.
    ⊎_elim
    (λ (earlier : i < n). before i d earlier within)
    (λ (late : n ≤ i).
    let at : n ≡ i = omega (arith, late, less) in
    let moved : x ≡ get_or xs i x = subst (λ (k : ℕ). x ≡ get_or xs k x) at is in
    subst P (moved ∙ get_or_default xs i x d within) here)
    (cases_lt i n)

-- no number from this place on stands twice
abbrev pub ApartFrom : List ℕ → ℕ → Type 0
ApartFrom xs n = (i j d : ℕ) → n ≤ i → i < j → j < length xs → get_or xs i d ≢ get_or xs j d

pub apart_more : (xs : List ℕ) (n : ℕ) → n < length xs → ApartFrom xs (n + 1) → All (λ x. x ≢ get_or xs n 0) (take (length xs - (n + 1)) (drop (n + 1) xs)) → ApartFrom xs n
apart_more xs n inside later others = λ i j d at order within.
    ⊎_elim
    (λ (here : i < n + 1).
    let is : i ≡ n = omega (arith, here, at) in
    λ (equal : get_or xs i d ≡ get_or xs j d).
    let place : (n + 1) + (j - (n + 1)) ≡ j = omega (arith, order, is) in
    let behind : j - (n + 1) < length (drop (n + 1) xs) = omega (arith, length-drop (n + 1) xs, order, within, is) in
    let whole : take (length xs - (n + 1)) (drop (n + 1) xs) ≡ drop (n + 1) xs = take_all (length xs - (n + 1)) (drop (n + 1) xs) (omega (arith, length-drop (n + 1) xs)) in
    let rest : All (λ x. x ≢ get_or xs n 0) (drop (n + 1) xs) = subst (λ ls. All (λ x. x ≢ get_or xs n 0) ls) whole others in
    rest (j - (n + 1)) d behind (
    get_or-drop (n + 1) xs (j - (n + 1)) d
    ∙ ap (λ (k : ℕ). get_or xs k d) place
    ∙ sym equal
    ∙ ap (λ (k : ℕ). get_or xs k d) is
    ∙ get_or_default xs n d 0 inside
    ))
    (λ (after : n + 1 ≤ i). later i j d after order within)
    (cases_lt i (n + 1))
