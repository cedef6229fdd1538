-- The counter of names as it is written: cell by cell and row by row, and within its variables.
use Rattle.std.proofs.Common.{◌≡◌, ℕ, zero, suc, ◌+◌, ◌*◌, ◌/◌, ◌<◌, ◌≤◌, Bool, true, false, cond, nat_lt, List, [], ◌∷◌, ◌++◌, append_assoc, refl, sym, ap, ap₂, ◌∙◌, subst, arith}
use Rattle.std.specs.Prelude.{Result, Ok, Err, OnOk}
use Rattle.std.proofs.lemmas.Bool.{lt-ltb, ltb-true, false_from_ne_true}
use Rattle.lrat_model.specs.Literal.{Literal, Plus, Minus}
use Rattle.lrat_model.specs.Clauses.{numbered}
use Rattle.lrat_model.specs.Ranges.{AreInRange}
use Rattle.clause_encoder.specs.NameCounter.{cells_before, counted, counter_vars, carry, one_more, cell_of, row_of, rows_of, counter_of}
use Rattle.clause_encoder.proofs.NameCounts.{variables}
use Rattle.clause_encoder.proofs.RangeLaws.{LiteralsBelow, ClausesBelow, clauses_both, numbered_range}

pub next_cells : (i : ℕ) → cells_before (i + 1) ≡ cells_before i + i
next_cells i = ap cells_before (next i)
  where
    next : (i : ℕ) → i + 1 ≡ suc i
    next i = omega arith

-- the variable of t(i + 1, j + 1), after those of row i
cell_place : (g i above j : ℕ) → above ≡ g + cells_before i → above + i + (j + 1) ≡ counted g (i + 1) (j + 1)
cell_place g i above j at = omega (arith, at, next_cells i)

-- ---- a cell

module _ (g i above : ℕ) (at : above ≡ g + cells_before i) where
  -- the literals of one more
  more_written : (j : ℕ) (old new : List (List Literal)) → (j ≡ 0 → new ≡ old ++ (Minus (i + 1) ∷ Plus (above + i + (j + 1)) ∷ []) ∷ [])
      → (0 < j → new ≡ old ++ (Minus (i + 1) ∷ Minus (above + j) ∷ Plus (above + i + (j + 1)) ∷ []) ∷ []) → new ≡ old ++ one_more g i j ∷ []
  more_written zero old new first later = first refl ∙ ap (λ (x : ℕ). old ++ (Minus (i + 1) ∷ Plus x ∷ []) ∷ []) (cell_place g i above zero at)
  more_written (suc j) old new first later =
      later (omega arith)
      ∙ ap (λ (x : ℕ). old ++ (Minus (i + 1) ∷ Minus (x + suc j) ∷ Plus (above + i + (suc j + 1)) ∷ []) ∷ []) at
      ∙ ap (λ (x : ℕ). old ++ (Minus (i + 1) ∷ Minus (counted g i (suc j)) ∷ Plus x ∷ []) ∷ []) (cell_place g i above (suc j) at)

  carry_written : (j : ℕ) → Minus (above + (j + 1)) ∷ Plus (above + i + (j + 1)) ∷ [] ≡ carry g i (j + 1)
  carry_written j = ap (λ (x : ℕ). Minus (x + (j + 1)) ∷ Plus (above + i + (j + 1)) ∷ []) at ∙ ap (λ (x : ℕ). Minus (counted g i (j + 1)) ∷ Plus x ∷ []) (cell_place g i above j at)

  -- with the carry before it
  pub cell_low : (j : ℕ) (old middle new : List (List Literal)) → j < i → middle ≡ old ++ (Minus (above + (j + 1)) ∷ Plus (above + i + (j + 1)) ∷ []) ∷ []
      → (j ≡ 0 → new ≡ middle ++ (Minus (i + 1) ∷ Plus (above + i + (j + 1)) ∷ []) ∷ []) → (0 < j → new ≡ middle ++ (Minus (i + 1) ∷ Minus (above + j) ∷ Plus (above + i + (j + 1)) ∷ []) ∷ []) → new ≡ old ++ cell_of g i j
  cell_low j old middle new low before first later =
      more_written j middle new first later
      ∙ ap (λ (cs : List (List Literal)). cs ++ one_more g i j ∷ []) (before ∙ ap (λ (c : List Literal). old ++ c ∷ []) (carry_written j))
      ∙ append_assoc old (carry g i (j + 1) ∷ []) (one_more g i j ∷ [])
      ∙ ap (λ (b : Bool). old ++ cond b (carry g i (j + 1) ∷ one_more g i j ∷ []) (one_more g i j ∷ [])) (sym (lt-ltb j i low))

  -- and without one
  pub cell_last : (j : ℕ) (old new : List (List Literal)) → (j < i → ⊥) → (j ≡ 0 → new ≡ old ++ (Minus (i + 1) ∷ Plus (above + i + (j + 1)) ∷ []) ∷ [])
      → (0 < j → new ≡ old ++ (Minus (i + 1) ∷ Minus (above + j) ∷ Plus (above + i + (j + 1)) ∷ []) ∷ []) → new ≡ old ++ cell_of g i j
  cell_last j old new high first later =
      more_written j old new first later
      ∙ ap (λ (b : Bool). old ++ cond b (carry g i (j + 1) ∷ one_more g i j ∷ []) (one_more g i j ∷ [])) (sym (false_from_ne_true (nat_lt j i) (λ h. high (ltb-true j i h))))

-- as it is written
pub cell_written : {A E : Type 0} (r : Result A E) (g i above j name cell : ℕ) (first last : Literal) (old middle new : List (List Literal)) → name ≡ i + 1 → cell ≡ above + i + (j + 1) → first ≡ Minus (above + (j + 1)) → last ≡ Plus cell → j < i
    → middle ≡ old ++ (first ∷ last ∷ []) ∷ [] → (j ≡ 0 → OnOk r (new ≡ middle ++ (Minus name ∷ Plus cell ∷ []) ∷ [])) → (0 < j → OnOk r (new ≡ middle ++ (Minus name ∷ Minus (above + j) ∷ Plus cell ∷ []) ∷ []))
    → above ≡ g + cells_before i → OnOk r (new ≡ old ++ cell_of g i j)
cell_written (Ok a) g i above j name cell first last old middle new name_is cell_is first_is last_is low carried none some at =
    cell_low g i above at j old middle new low
    (carried ∙ ap₂ (λ (x y : Literal). old ++ (x ∷ y ∷ []) ∷ []) first_is (last_is ∙ ap Plus cell_is))
    (λ h. none h ∙ ap₂ (λ (x y : ℕ). middle ++ (Minus x ∷ Plus y ∷ []) ∷ []) name_is cell_is)
    (λ h. some h ∙ ap₂ (λ (x y : ℕ). middle ++ (Minus x ∷ Minus (above + j) ∷ Plus y ∷ []) ∷ []) name_is cell_is)
cell_written (Err e) g i above j name cell first last old middle new name_is cell_is first_is last_is low carried none some at = tt

-- ---- rows

-- one cell more of a row
pub row_more : (g i j : ℕ) (start old new : List (List Literal)) → old ≡ start ++ row_of g i j → new ≡ old ++ cell_of g i j → new ≡ start ++ row_of g i (j + 1)
row_more g i j start old new before written =
    written
    ∙ ap (λ (cs : List (List Literal)). cs ++ cell_of g i j) before
    ∙ append_assoc start (row_of g i j) (cell_of g i j)
    ∙ ap (λ (n : ℕ). start ++ row_of g i n) (next j)
  where
    next : (j : ℕ) → suc j ≡ j + 1
    next j = omega arith

-- one row more
pub rows_more : (g i : ℕ) (start old new : List (List Literal)) → old ≡ start ++ rows_of g i → new ≡ old ++ row_of g i (i + 1) → new ≡ start ++ rows_of g (i + 1)
rows_more g i start old new before written =
    written
    ∙ ap (λ (cs : List (List Literal)). cs ++ row_of g i (i + 1)) before
    ∙ append_assoc start (rows_of g i) (row_of g i (i + 1))
    ∙ ap (λ (n : ℕ). start ++ rows_of g n) (next i)
  where
    next : (i : ℕ) → suc i ≡ i + 1
    next i = omega arith

-- ---- places

pub cells_grow : (i j : ℕ) → i ≤ j → cells_before i ≤ cells_before j
cells_grow i zero low = let none : i ≡ zero = omega arith in subst (λ (x : ℕ). cells_before x ≤ cells_before zero) (sym none) (omega arith)
cells_grow i (suc j) low = elim (nat_lt i (suc j)) as (λ b. nat_lt i (suc j) ≡ b → cells_before i ≤ cells_before (suc j)) [
  | true ↦ λ is. let before = ltb-true i (suc j) is in omega (arith, cells_grow i j (omega arith))
  | false ↦ λ is. let same : suc j ≡ i = omega (arith, high i (suc j) is) in subst (λ (x : ℕ). cells_before i ≤ cells_before x) (sym same) (omega arith)
] refl
  where
    high : (a b : ℕ) → nat_lt a b ≡ false → b ≤ a
    high a b is = grind arith

-- the cells of row i + 1 are among the variables
pub row_fits : (g i : ℕ) → i < g → g + cells_before i + 2 * i + 1 ≤ counter_vars g
row_fits g i low = omega (arith, next_cells i, next_cells (i + 1), cells_grow (i + 1 + 1) (g + 1) (omega arith))

-- how many there are
pub vars_by_half : (g : ℕ) → counter_vars g ≡ g + g * (g + 1) / 2
vars_by_half g = omega (arith, variables g)

-- ---- within its variables

below_counted : (g i j : ℕ) → i ≤ g → j ≤ i → counted g i j < counter_vars g + 1
below_counted g i j low here = omega (arith, next_cells i, cells_grow (i + 1) (g + 1) (omega arith))

module _ (g : ℕ) where
  more_below : (i j : ℕ) → i < g → j ≤ i → LiteralsBelow (counter_vars g + 1) (one_more g i j)
  more_below i zero low here = (omega arith, (below_counted g (i + 1) 1 (omega arith) (omega arith), tt))
  more_below i (suc j) low here = (omega arith, (below_counted g i (suc j) (omega arith) here, (below_counted g (i + 1) (suc j + 1) (omega arith) (omega arith), tt)))

  cell_below : (i j : ℕ) → i < g → j ≤ i → ClausesBelow (counter_vars g + 1) (cell_of g i j)
  cell_below i j low here = elim (nat_lt j i) as (λ b. nat_lt j i ≡ b → ClausesBelow (counter_vars g + 1) (cond b (carry g i (j + 1) ∷ one_more g i j ∷ []) (one_more g i j ∷ []))) [
    | true ↦ λ is. let before = ltb-true j i is in ((below_counted g i (j + 1) (omega arith) (omega arith), (below_counted g (i + 1) (j + 1) (omega arith) (omega arith), tt)), (more_below i j low here, tt))
    | false ↦ λ is. (more_below i j low here, tt)
  ] refl

  row_below : (i n : ℕ) → i < g → n ≤ i + 1 → ClausesBelow (counter_vars g + 1) (row_of g i n)
  row_below i zero low here = tt
  row_below i (suc n) low here = clauses_both (counter_vars g + 1) (row_of g i n) (cell_of g i n) (row_below i n low (omega arith)) (cell_below i n low (omega arith))

  rows_below : (n : ℕ) → n ≤ g → ClausesBelow (counter_vars g + 1) (rows_of g n)
  rows_below zero low = tt
  rows_below (suc n) low = clauses_both (counter_vars g + 1) (rows_of g n) (row_of g n (n + 1)) (rows_below n (omega arith)) (row_below n (n + 1) (omega arith) (omega arith))

  pub counter_in_range : AreInRange (counter_vars g) (numbered 1 (counter_of g))
  counter_in_range = numbered_range (counter_vars g) 1 (counter_of g) (rows_below g (omega arith))
