-- A list of which a front part is mapped, as by a loop that goes over it.
use Rattle.std.proofs.Common.{◌≡◌, ℕ, zero, suc, ◌+◌, ◌<◌, ◌≤◌, List, [], ◌∷◌, ◌++◌, length, get_or, take, drop, refl, sym, ap, ◌∙◌, add-one, arith}
use Rattle.std.proofs.Math.ListN.{set}
use Rattle.std.specs.Prelude.{map}

get_or-front : {A : Type 0} (f : A → A) (xs : List A) (i : ℕ) (d : A) → i < length xs → get_or (map f (take i xs) ++ drop i xs) i d ≡ get_or xs i d
get_or-front f [] i d less = absurd (omega (arith, less))
get_or-front f (x ∷ xs) zero d less = refl
get_or-front f (x ∷ xs) (suc i) d less = get_or-front f xs i d (omega (arith, less))

set-front : {A : Type 0} (f : A → A) (xs : List A) (i : ℕ) (d : A) → i < length xs
    → set (map f (take i xs) ++ drop i xs) i (f (get_or xs i d)) ≡ map f (take (suc i) xs) ++ drop (suc i) xs
set-front f [] i d less = absurd (omega (arith, less))
set-front f (x ∷ xs) zero d less = refl
set-front {A = A} f (x ∷ xs) (suc i) d less = ap (λ (ys : List A). f x ∷ ys) (set-front f xs i d (omega (arith, less)))

-- one more is mapped
pub front_more : {A : Type 0} (f : A → A) (xs ys : List A) (i : ℕ) (d y : A) → ys ≡ map f (take i xs) ++ drop i xs → i < length xs → y ≡ f (get_or ys i d)
    → set ys i y ≡ map f (take (i + 1) xs) ++ drop (i + 1) xs
front_more {A = A} f xs ys i d y front less is =
    let at : get_or ys i d ≡ get_or xs i d = ap (λ (zs : List A). get_or zs i d) front ∙ get_or-front f xs i d less in
    ap (λ (zs : List A). set zs i y) front
    ∙ ap (λ (z : A). set (map f (take i xs) ++ drop i xs) i z) (is ∙ ap f at)
    ∙ set-front f xs i d less
    ∙ ap (λ (n : ℕ). map f (take n xs) ++ drop n xs) (sym (add-one i))

-- all are mapped
pub front_all : {A : Type 0} (f : A → A) (xs : List A) (i : ℕ) → length xs ≤ i → map f (take i xs) ++ drop i xs ≡ map f xs
front_all f [] zero all = refl
front_all f [] (suc i) all = refl
front_all f (x ∷ xs) zero all = absurd (omega (arith, all))
front_all {A = A} f (x ∷ xs) (suc i) all = ap (λ (ys : List A). f x ∷ ys) (front_all f xs i (omega (arith, all)))
