-- How often gates are named by the variables that a trail has false.
use Rattle.std.proofs.Common.{◌≡◌, ℕ, ◌+◌, ◌<◌, ◌≤◌, Bool, true, false, ◌||◌, cond, List, [], ◌∷◌, ◌++◌, length, get_or, take, filter, refl, sym, ap, ◌∙◌, subst, arith}
use Rattle.std.proofs.lemmas.Bool.{true≢false, or_parts}
use Rattle.std.proofs.lemmas.List.Filters.{length-filter_more}
use Rattle.std.specs.Prelude.{◌==◌}
use Rattle.lrat_model.specs.Literal.{Literal, Plus, Minus, negated, same, has}
use Rattle.lrat_model.proofs.Literals.{same-true, same-itself, has-first, has-rest}
use Rattle.cardinality_counts.specs.Counts.{times, part_of, tally}

length-one : (b : Bool) (x : ℕ) → length (cond b (x ∷ []) []) ≡ cond b 1 0
length-one true x = refl
length-one false x = refl

-- with one name more
pub times-more : (list : List ℕ) (i k : ℕ) → i < length list → times (take (i + 1) list) k ≡ times (take i list) k + times (get_or list i 0 ∷ []) k
times-more list i k within =
    length-filter_more (λ j. j == k) list i 0 within ∙ ap (λ n. times (take i list) k + n) (sym (length-one (get_or list i 0 == k) (get_or list i 0)))

-- with one literal more
pub tally-push : (starts entries : List ℕ) (trail : List Literal) (l : Literal) (g : ℕ) → tally starts entries (trail ++ l ∷ []) g ≡ tally starts entries trail g + tally starts entries (l ∷ []) g
tally-push starts entries [] l g = omega arith
tally-push starts entries (Plus x ∷ trail) l g = tally-push starts entries trail l g
tally-push starts entries (Minus x ∷ trail) l g = omega (arith, tally-push starts entries trail l g)

-- no literal stands twice
abbrev pub IsDistinct : List Literal → Type 0
IsDistinct [] = Unit {0}
IsDistinct (l ∷ ls) = (has ls l ≡ false) × IsDistinct ls

filter-none : (set : List Literal) → length (filter (λ l. false) set) ≡ 0
filter-none [] = refl
filter-none (l ∷ ls) = filter-none ls

cond_or : (a b : Bool) (xs ys zs : List Literal) (l : Literal) → length zs ≤ length xs + length ys → length (cond (a || b) (l ∷ zs) zs) ≤ length (cond a (l ∷ xs) xs) + length (cond b (l ∷ ys) ys)
cond_or true true xs ys zs l less = omega (arith, less)
cond_or true false xs ys zs l less = omega (arith, less)
cond_or false true xs ys zs l less = omega (arith, less)
cond_or false false xs ys zs l less = less

filter-or : (p q : Literal → Bool) (set : List Literal) → length (filter (λ l. p l || q l) set) ≤ length (filter p set) + length (filter q set)
filter-or p q [] = omega arith
filter-or p q (l ∷ ls) = cond_or (p l) (q l) (filter p ls) (filter q ls) (filter (λ k. p k || q k) ls) l (filter-or p q ls)

-- the literals whose negation is m
none_same : (m : Literal) (set : List Literal) → has set (negated m) ≡ false → length (filter (λ l. same (negated l) m) set) ≡ 0
none_same m [] out = refl
none_same m (l ∷ ls) out =
    let parts : (same (negated m) l ≡ false) × (has ls (negated m) ≡ false) = or_parts (same (negated m) l) (has ls (negated m)) out in
    ap (λ b. length (cond b (l ∷ filter (λ k. same (negated k) m) ls) (filter (λ k. same (negated k) m) ls))) (moved l m parts.0) ∙ none_same m ls parts.1
  where
    symmetric : (x y : ℕ) → same (Plus x) (Plus y) ≡ false → same (Plus y) (Plus x) ≡ false
    symmetric x y differ =
        elim (same (Plus y) (Plus x)) as (λ b. same (Plus y) (Plus x) ≡ b → b ≡ false) [
          | true ↦ λ is. absurd (true≢false (sym (subst (λ k. same k (Plus y) ≡ true) (same-true (Plus y) (Plus x) is) (same-itself (Plus y))) ∙ differ))
          | false ↦ λ _. refl
        ] refl

    moved : (l m : Literal) → same (negated m) l ≡ false → same (negated l) m ≡ false
    moved (Plus x) (Plus y) differ = refl
    moved (Plus x) (Minus y) differ = symmetric y x differ
    moved (Minus x) (Plus y) differ = symmetric y x differ
    moved (Minus x) (Minus y) differ = refl

-- of a distinct set it is at most one
one_same : (m : Literal) (n : ℕ) (set : List Literal) → IsDistinct set → (has set (negated m) ≡ true → 0 < n) → length (filter (λ l. same (negated l) m) set) ≤ n
one_same m n [] distinct some = omega arith
one_same m n (l ∷ ls) distinct some =
    elim (same (negated l) m) as (λ b. same (negated l) m ≡ b → length (cond b (l ∷ filter (λ k. same (negated k) m) ls) (filter (λ k. same (negated k) m) ls)) ≤ n) [
      | true ↦ λ is.
          let own : l ≡ negated m = other l m (same-true (negated l) m is) in
          let here : 0 < n = some (subst (λ k. has (l ∷ ls) k ≡ true) own (has-first l ls)) in
          let rest : length (filter (λ k. same (negated k) m) ls) ≡ 0 = none_same m ls (subst (λ k. has ls k ≡ false) own distinct.0) in
          omega (arith, here, rest)
      | false ↦ λ _. one_same m n ls distinct.1 (λ there. some (has-rest l (negated m) ls there))
    ] refl
  where
    other : (l m : Literal) → negated l ≡ m → l ≡ negated m
    other (Plus x) m is = ap negated is
    other (Minus x) m is = ap negated is

-- each literal is that of a variable that names the gate
abbrev pub AreNaming : List ℕ → List ℕ → ℕ → List Literal → Type 0
AreNaming starts entries g set = (l : Literal) → has set l ≡ true → (x : ℕ) × (l ≡ Plus x) × (0 < times (part_of starts entries x) g)

named : (starts entries : List ℕ) (g : ℕ) (set : List Literal) → AreNaming starts entries g set → (x : ℕ) → has set (Plus x) ≡ true → 0 < times (part_of starts entries x) g
named starts entries g set naming x there =
    let name : (y : ℕ) × (Plus x ≡ Plus y) × (0 < times (part_of starts entries y) g) = naming (Plus x) there in
    let is : name.0 ≡ x = cc in
    subst (λ y. 0 < times (part_of starts entries y) g) is name.2

none_denied : (starts entries : List ℕ) (g : ℕ) (set : List Literal) → AreNaming starts entries g set → (x : ℕ) → has set (Minus x) ≡ false
none_denied starts entries g set naming x =
    elim (has set (Minus x)) as (λ b. has set (Minus x) ≡ b → b ≡ false) [
      | true ↦ λ there. let name : (y : ℕ) × (Minus x ≡ Plus y) × (0 < times (part_of starts entries y) g) = naming (Minus x) there in cc
      | false ↦ λ _. refl
    ] refl

-- of a distinct set of inputs no more are false than is counted
pub falses_counted : (starts entries : List ℕ) (g : ℕ) (set : List Literal) → IsDistinct set → AreNaming starts entries g set → (trail : List Literal) → length (filter (λ l. has trail (negated l)) set) ≤ tally starts entries trail g
falses_counted starts entries g set distinct naming [] = omega (arith, filter-none set)
falses_counted starts entries g set distinct naming (Plus x ∷ trail) =
    omega (arith, filter-or (λ l. same (negated l) (Plus x)) (λ l. has trail (negated l)) set, none_same (Plus x) set (none_denied starts entries g set naming x), falses_counted starts entries g set distinct naming trail)
falses_counted starts entries g set distinct naming (Minus x ∷ trail) =
    omega (arith, filter-or (λ l. same (negated l) (Minus x)) (λ l. has trail (negated l)) set, one_same (Minus x) (times (part_of starts entries x) g) set distinct (named starts entries g set naming x), falses_counted starts entries g set distinct naming trail)
