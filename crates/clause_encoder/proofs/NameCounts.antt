-- Where the clauses of the counter are true, it counts at least what is there.
use Rattle.std.proofs.Common.{◌≡◌, ℕ, zero, suc, ◌+◌, ◌*◌, ◌<◌, ◌≤◌, Bool, true, false, not, ◌&&◌, ◌||◌, cond, List, [], ◌∷◌, ◌++◌, length, nat_lt, refl, ap, ◌∙◌, subst, arith, inl, inr}
use Rattle.std.proofs.lemmas.Bool.{cases_Bool, cases_lt, and_parts, both_ways, lt-ltb, ltb-true, false_from_ne_true}
use Rattle.std.proofs.lemmas.List.{length-append}
use Rattle.std.proofs.lemmas.List.Folds.{list_all-append}
use Rattle.lrat_model.specs.Literal.{Literal, clause_true, formula_true}
use Rattle.clause_encoder.specs.NameCounter.{cells_before, counted, counter_vars, carry, one_more, cell_of, row_of, rows_of, counter_of, true_count}

parts : (v : ℕ → Bool) (xs ys : List (List Literal)) → formula_true v (xs ++ ys) ≡ true → (formula_true v xs ≡ true) × (formula_true v ys ≡ true)
parts v xs ys h = and_parts (formula_true v xs) (formula_true v ys) (rw list_all-append at h)

-- the rows are true, so is each of them
row_true : (v : ℕ → Bool) (g i n : ℕ) → i < n → formula_true v (rows_of g n) ≡ true → formula_true v (row_of g i (i + 1)) ≡ true
row_true v g i zero low h = absurd (omega arith)
row_true v g i (suc n) low h = elim (cases_lt i n) [
  | inl before ↦ row_true v g i n before (parts v (rows_of g n) (row_of g n (n + 1)) h).0
  | inr last ↦ let same : n ≡ i = omega arith in subst (λ (x : ℕ). formula_true v (row_of g x (x + 1)) ≡ true) same (parts v (rows_of g n) (row_of g n (n + 1)) h).1
]

cell_true : (v : ℕ → Bool) (g i j n : ℕ) → j < n → formula_true v (row_of g i n) ≡ true → formula_true v (cell_of g i j) ≡ true
cell_true v g i j zero low h = absurd (omega arith)
cell_true v g i j (suc n) low h = elim (cases_lt j n) [
  | inl before ↦ cell_true v g i j n before (parts v (row_of g i n) (cell_of g i n) h).0
  | inr last ↦ let same : n ≡ j = omega arith in subst (λ (x : ℕ). formula_true v (cell_of g i x) ≡ true) same (parts v (row_of g i n) (cell_of g i n) h).1
]

one_more_true : (v : ℕ → Bool) (g i j : ℕ) → formula_true v (cell_of g i j) ≡ true → clause_true v (one_more g i j) ≡ true
one_more_true v g i j = elim (nat_lt j i) as (λ b. formula_true v (cond b (carry g i (j + 1) ∷ one_more g i j ∷ []) (one_more g i j ∷ [])) ≡ true → clause_true v (one_more g i j) ≡ true) [
  | true ↦ λ h. (and_parts (clause_true v (one_more g i j)) true (and_parts (clause_true v (carry g i (j + 1))) (clause_true v (one_more g i j) && true) h).1).0
  | false ↦ λ h. (and_parts (clause_true v (one_more g i j)) true h).0
]

carry_true : (v : ℕ → Bool) (g i j : ℕ) → j < i → formula_true v (cell_of g i j) ≡ true → clause_true v (carry g i (j + 1)) ≡ true
carry_true v g i j low h = (and_parts (clause_true v (carry g i (j + 1))) (clause_true v (one_more g i j) && true)
    (subst (λ (b : Bool). formula_true v (cond b (carry g i (j + 1) ∷ one_more g i j ∷ []) (one_more g i j ∷ [])) ≡ true) (lt-ltb j i low) h)).0

then_true : (x y : Bool) → (not x || (y || false)) ≡ true → x ≡ true → y ≡ true
then_true true true h is = refl
then_true true false h is = h
then_true false y h is = absurd cc

both_true : (x y z : Bool) → (not x || (not y || (z || false))) ≡ true → x ≡ true → y ≡ true → z ≡ true
both_true true true true h is there = refl
both_true true true false h is there = h
both_true true false z h is there = absurd cc
both_true false y z h is there = absurd cc

pub count_le : (v : ℕ → Bool) (i : ℕ) → true_count v i ≤ i
count_le v zero = omega arith
count_le v (suc i) = elim (v (i + 1)) as (λ b. cond b (true_count v i + 1) (true_count v i) ≤ suc i) [
  | true ↦ omega (arith, count_le v i)
  | false ↦ omega (arith, count_le v i)
]

-- where name i + 1 is true, and so are j of the first i
more_reached : (v : ℕ → Bool) (g i j : ℕ) → clause_true v (one_more g i j) ≡ true → v (i + 1) ≡ true → (0 < j → v (counted g i j) ≡ true) → v (counted g (i + 1) (j + 1)) ≡ true
more_reached v g i zero h is before = then_true (v (i + 1)) (v (counted g (i + 1) 1)) h is
more_reached v g i (suc j) h is before = both_true (v (i + 1)) (v (counted g i (suc j))) (v (counted g (i + 1) (suc j + 1))) h is (before (omega arith))

module _ (v : ℕ → Bool) (g : ℕ) (solves : formula_true v (counter_of g) ≡ true) where
  reached_next : (i j : ℕ) → i < g → j < i + 1 → ((k : ℕ) → 0 < k → k ≤ true_count v i → v (counted g i k) ≡ true) → j + 1 ≤ true_count v (suc i) → v (counted g (i + 1) (j + 1)) ≡ true
  reached_next i j low here before many =
      let cell = cell_true v g i j (i + 1) here (row_true v g i g low solves) in
      elim (cases_Bool (v (i + 1))) [
        | inl is ↦
            let few : true_count v (suc i) ≡ true_count v i + 1 = ap (λ (b : Bool). cond b (true_count v i + 1) (true_count v i)) is in
            more_reached v g i j (one_more_true v g i j cell) is (λ some. before j some (omega (arith, few)))
        | inr is ↦
            let same : true_count v (suc i) ≡ true_count v i = ap (λ (b : Bool). cond b (true_count v i + 1) (true_count v i)) is in
            then_true (v (counted g i (j + 1))) (v (counted g (i + 1) (j + 1))) (carry_true v g i j (omega (arith, same, count_le v i)) cell) (before (j + 1) (omega arith) (omega (arith, same)))
      ]

  pub reached : (i j : ℕ) → i ≤ g → 0 < j → j ≤ true_count v i → v (counted g i j) ≡ true
  reached zero j low some many = absurd (omega arith)
  reached (suc i) zero low some many = absurd (omega arith)
  reached (suc i) (suc j) low some many =
      subst (λ (n : ℕ). v (counted g (suc i) n) ≡ true) (after j) (subst (λ (n : ℕ). v (counted g n (j + 1)) ≡ true) (after i)
      (reached_next i j (omega arith) (omega (arith, count_le v (suc i))) (λ k some_k many_k. reached i k (omega arith) some_k many_k) (omega arith)))
    where
      after : (n : ℕ) → n + 1 ≡ suc n
      after n = omega arith

  pub few : (m : ℕ) → 0 < m → v (counted g g m) ≡ false → true_count v g < m
  few m some off = elim (cases_lt (true_count v g) m) [
    | inl low ↦ low
    | inr many ↦ absurd (both_ways (v (counted g g m)) off (reached g m (omega arith) some many))
  ]

-- ---- how many

cell_length : (g i j : ℕ) → j < i → length (cell_of g i j) ≡ 2
cell_length g i j low = ap (λ (b : Bool). length (cond b (carry g i (j + 1) ∷ one_more g i j ∷ []) (one_more g i j ∷ []))) (lt-ltb j i low)

last_length : (g i : ℕ) → length (cell_of g i i) ≡ 1
last_length g i = ap (λ (b : Bool). length (cond b (carry g i (i + 1) ∷ one_more g i i ∷ []) (one_more g i i ∷ []))) (false_from_ne_true (nat_lt i i) (λ h. absurd (itself i h)))
  where
    itself : (i : ℕ) → nat_lt i i ≡ true → ⊥
    itself i h = let low = ltb-true i i h in omega arith

row_length : (g i n : ℕ) → n ≤ i → length (row_of g i n) ≡ 2 * n
row_length g i zero low = refl
row_length g i (suc n) low = omega (arith, length-append (row_of g i n) (cell_of g i n), row_length g i n (omega arith), cell_length g i n (omega arith))

whole_row : (g i : ℕ) → length (row_of g i (i + 1)) ≡ 2 * i + 1
whole_row g i = ap (λ (n : ℕ). length (row_of g i n)) (after i) ∙ length-append (row_of g i i) (cell_of g i i) ∙ added (length (row_of g i i)) (length (cell_of g i i)) i (row_length g i i (omega arith)) (last_length g i)
  where
    after : (n : ℕ) → n + 1 ≡ suc n
    after n = omega arith

    added : (x y i : ℕ) → x ≡ 2 * i → y ≡ 1 → x + y ≡ 2 * i + 1
    added x y i e f = omega (arith, e, f)

pub square : (g n : ℕ) → length (rows_of g n) ≡ n * n
square g zero = refl
square g (suc n) = length-append (rows_of g n) (row_of g n (n + 1)) ∙ next (length (rows_of g n)) (length (row_of g n (n + 1))) (square g n) (whole_row g n)
  where
    next : (x y : ℕ) → x ≡ n * n → y ≡ 2 * n + 1 → x + y ≡ suc n * suc n
    next x y e f = omega (arith, e, f)

pub doubled : (n : ℕ) → 2 * cells_before (n + 1) ≡ n * (n + 1)
doubled zero = refl
doubled (suc n) = subst (λ (k : ℕ). 2 * cells_before k ≡ suc n * (suc n + 1)) (after n) (grown (cells_before (n + 1)) (doubled n))
  where
    after : (n : ℕ) → suc (n + 1) ≡ suc n + 1
    after n = omega arith

    grown : (x : ℕ) → 2 * x ≡ n * (n + 1) → 2 * (x + (n + 1)) ≡ suc n * (suc n + 1)
    grown x e = omega (arith, e)

pub variables : (g : ℕ) → 2 * counter_vars g ≡ g * (g + 3)
variables g = sum (cells_before (g + 1)) (doubled g)
  where
    sum : (x : ℕ) → 2 * x ≡ g * (g + 1) → 2 * (g + x) ≡ g * (g + 3)
    sum x e = omega (arith, e)
