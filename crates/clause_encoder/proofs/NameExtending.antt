-- Each set of names makes the counter's clauses true, where each of its variables tells just what is so.
use Rattle.std.proofs.Common.{◌≡◌, ℕ, zero, suc, ◌+◌, ◌-◌, ◌<◌, ◌≤◌, Bool, true, false, not, ◌&&◌, ◌||◌, cond, List, [], ◌∷◌, ◌++◌, nat_lt, nat_le, refl, sym, ap, ◌∙◌, subst, arith}
use Rattle.std.proofs.lemmas.Bool.{and_from, le-leb, leb-true, ltb-true, false_from_ne_true}
use Rattle.std.proofs.lemmas.List.Folds.{list_all-append}
use Rattle.lrat_model.specs.Literal.{Literal, clause_true, formula_true}
use Rattle.clause_encoder.specs.NameCounter.{cells_before, counted, carry, one_more, cell_of, row_of, rows_of, counter_of, true_count, cell_value, extended}

low_test : (n m : ℕ) → n ≤ m → nat_le n m ≡ true
low_test n m h = le-leb n m h

high_test : (n m : ℕ) → m < n → nat_le n m ≡ false
high_test n m h = false_from_ne_true (nat_le n m) (λ low. let l = leb-true n m low in absurd (omega arith))

-- i + (i + 1) + .., of n rows from row i on
between : ℕ → ℕ → ℕ
between i zero = 0
between i (suc n) = i + between (i + 1) n

between_is : (i n : ℕ) → between i n + cells_before i ≡ cells_before (i + n)
unfolding between
between_is i zero = alone (cells_before i) ∙ ap cells_before (none i)
  where
    alone : (x : ℕ) → 0 + x ≡ x
    alone x = omega arith

    none : (i : ℕ) → i ≡ i + zero
    none i = omega arith
between_is i (suc n) = moved i (between (i + 1) n) (cells_before i) ∙ ap (λ (x : ℕ). between (i + 1) n + x) (one i) ∙ between_is (i + 1) n ∙ ap cells_before (later i n)
  where
    moved : (i x y : ℕ) → i + x + y ≡ x + (y + i)
    moved i x y = omega arith

    one : (i : ℕ) → cells_before i + i ≡ cells_before (i + 1)
    one i = ap cells_before (next i)
      where
        next : (i : ℕ) → suc i ≡ i + 1
        next i = omega arith

    later : (i n : ℕ) → i + 1 + n ≡ i + suc n
    later i n = omega arith

-- the value at the j-th place of the row that is n rows after row i
value_there : (v : ℕ → Bool) (left i n j : ℕ) → n < left → 0 < j → j ≤ i + n → cell_value v left i (between i n + j) ≡ nat_le j (true_count v (i + n))
unfolding between
value_there v zero i n j low some here = absurd (omega arith)
value_there v (suc left) i zero j low some here =
    ap (cell_value v (suc left) i) (alone j) ∙ ap (λ (b : Bool). cond b (nat_le j (true_count v i)) (cell_value v left (i + 1) (j - i))) (low_test j i (omega arith)) ∙ ap (λ (k : ℕ). nat_le j (true_count v k)) (none i)
  where
    alone : (x : ℕ) → 0 + x ≡ x
    alone x = omega arith

    none : (i : ℕ) → i ≡ i + zero
    none i = omega arith
value_there v (suc left) i (suc n) j low some here =
    ap (λ (b : Bool). cond b (nat_le (i + between (i + 1) n + j) (true_count v i)) (cell_value v left (i + 1) (i + between (i + 1) n + j - i))) (high_test (i + between (i + 1) n + j) i (omega arith))
    ∙ ap (cell_value v left (i + 1)) (taken i (between (i + 1) n) j)
    ∙ value_there v left (i + 1) n j (omega arith) some (omega arith)
    ∙ ap (λ (k : ℕ). nat_le j (true_count v k)) (later i n)
  where
    taken : (i x j : ℕ) → i + x + j - i ≡ x + j
    taken i x j = omega arith

    later : (i n : ℕ) → i + 1 + n ≡ i + suc n
    later i n = omega arith

pub extended_name : (v : ℕ → Bool) (g x : ℕ) → x ≤ g → extended v g x ≡ v x
extended_name v g x low = ap (λ (b : Bool). cond b (v x) (cell_value v (g + 1) 1 (x - g))) (low_test x g low)

pub extended_cell : (v : ℕ → Bool) (g i j : ℕ) → i ≤ g → 0 < j → j ≤ i → extended v g (counted g i j) ≡ nat_le j (true_count v i)
extended_cell v g zero j low some here = absurd (omega arith)
extended_cell v g (suc i) j low some here =
    ap (λ (b : Bool). cond b (v (counted g (suc i) j)) (cell_value v (g + 1) 1 (counted g (suc i) j - g))) (high_test (counted g (suc i) j) g (omega arith))
    ∙ ap (cell_value v (g + 1) 1) (behind g (cells_before i + i) j ∙ ap (λ (x : ℕ). x + j) rows_are)
    ∙ value_there v (g + 1) 1 i j (omega arith) some (omega arith)
    ∙ ap (λ (k : ℕ). nat_le j (true_count v k)) (next i)
  where
    behind : (g x j : ℕ) → g + x + j - g ≡ x + j
    behind g x j = omega arith

    next : (i : ℕ) → 1 + i ≡ suc i
    next i = omega arith

    rows_are : cells_before i + i ≡ between 1 i
    rows_are = sym (none (between 1 i) ∙ between_is 1 i ∙ ap cells_before (next i))
      where
        none : (x : ℕ) → x ≡ x + cells_before 1
        none x = omega arith

-- ---- its clauses

then_from : (x y : Bool) → (x ≡ true → y ≡ true) → (not x || (y || false)) ≡ true
then_from true y h = rw (h refl) refl
then_from false y h = refl

both_from : (x y z : Bool) → (x ≡ true → y ≡ true → z ≡ true) → (not x || (not y || (z || false))) ≡ true
both_from true true z h = rw (h refl refl) refl
both_from true false z h = refl
both_from false y z h = refl

count_next : (v : ℕ → Bool) (i : ℕ) → true_count v i ≤ true_count v (i + 1)
count_next v i = subst (λ (n : ℕ). true_count v i ≤ true_count v n) (next i) (elim (v (i + 1)) as (λ b. true_count v i ≤ cond b (true_count v i + 1) (true_count v i)) [
  | true ↦ omega arith
  | false ↦ omega arith
])
  where
    next : (i : ℕ) → suc i ≡ i + 1
    next i = omega arith

count_more : (v : ℕ → Bool) (i : ℕ) → v (i + 1) ≡ true → true_count v (i + 1) ≡ true_count v i + 1
count_more v i is = ap (true_count v) (next i) ∙ ap (λ (b : Bool). cond b (true_count v i + 1) (true_count v i)) is
  where
    next : (i : ℕ) → i + 1 ≡ suc i
    next i = omega arith

module _ (v : ℕ → Bool) (g : ℕ) where
  carry_holds : (i j : ℕ) → i < g → 0 < j → j ≤ i → clause_true (extended v g) (carry g i j) ≡ true
  carry_holds i j low some here = then_from (extended v g (counted g i j)) (extended v g (counted g (i + 1) j)) (λ h.
      let before = leb-true j (true_count v i) (sym (extended_cell v g i j (omega arith) some here) ∙ h) in
      extended_cell v g (i + 1) j (omega arith) some (omega arith) ∙ low_test j (true_count v (i + 1)) (omega (arith, before, count_next v i)))

  more_holds : (i j : ℕ) → i < g → j ≤ i → clause_true (extended v g) (one_more g i j) ≡ true
  more_holds i zero low here = then_from (extended v g (i + 1)) (extended v g (counted g (i + 1) 1)) (λ h.
      let more = count_more v i (sym (extended_name v g (i + 1) (omega arith)) ∙ h) in
      extended_cell v g (i + 1) 1 (omega arith) (omega arith) (omega arith) ∙ low_test 1 (true_count v (i + 1)) (omega (arith, more)))
  more_holds i (suc j) low here = both_from (extended v g (i + 1)) (extended v g (counted g i (suc j))) (extended v g (counted g (i + 1) (suc j + 1))) (λ h before.
      let more = count_more v i (sym (extended_name v g (i + 1) (omega arith)) ∙ h) in
      let many = leb-true (suc j) (true_count v i) (sym (extended_cell v g i (suc j) (omega arith) (omega arith) here) ∙ before) in
      extended_cell v g (i + 1) (suc j + 1) (omega arith) (omega arith) (omega arith) ∙ low_test (suc j + 1) (true_count v (i + 1)) (omega (arith, more, many)))

  both : (xs ys : List (List Literal)) → formula_true (extended v g) xs ≡ true → formula_true (extended v g) ys ≡ true → formula_true (extended v g) (xs ++ ys) ≡ true
  both xs ys one two = rw list_all-append (and_from (formula_true (extended v g) xs) (formula_true (extended v g) ys) one two)

  cell_holds : (i j : ℕ) → i < g → j ≤ i → formula_true (extended v g) (cell_of g i j) ≡ true
  cell_holds i j low here = elim (nat_lt j i) as (λ b. nat_lt j i ≡ b → formula_true (extended v g) (cond b (carry g i (j + 1) ∷ one_more g i j ∷ []) (one_more g i j ∷ [])) ≡ true) [
    | true ↦ λ test. let below = ltb-true j i test in
        and_from (clause_true (extended v g) (carry g i (j + 1))) (clause_true (extended v g) (one_more g i j) && true) (carry_holds i (j + 1) low (omega arith) (omega arith)) (and_from (clause_true (extended v g) (one_more g i j)) true (more_holds i j low here) refl)
    | false ↦ λ test. and_from (clause_true (extended v g) (one_more g i j)) true (more_holds i j low here) refl
  ] refl

  row_holds : (i n : ℕ) → i < g → n ≤ i + 1 → formula_true (extended v g) (row_of g i n) ≡ true
  row_holds i zero low here = refl
  row_holds i (suc n) low here = both (row_of g i n) (cell_of g i n) (row_holds i n low (omega arith)) (cell_holds i n low (omega arith))

  rows_hold : (n : ℕ) → n ≤ g → formula_true (extended v g) (rows_of g n) ≡ true
  rows_hold zero low = refl
  rows_hold (suc n) low = both (rows_of g n) (row_of g n (n + 1)) (rows_hold n (omega arith)) (row_holds n (n + 1) (omega arith) (omega arith))

  pub counter_holds : formula_true (extended v g) (counter_of g) ≡ true
  counter_holds = rows_hold g (omega arith)
