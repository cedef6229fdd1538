-- Where each place has a cell of its own, and inputs, heads and the row that stays have none, they are told apart.
use Rattle.std.proofs.Common.{◌≡◌, ◌≢◌, ℕ, suc, ◌-◌, ◌≤◌, Bool, true, false, cond, length, List, [], ◌∷◌, map, Option, None, Some, ⊎_elim, inl, inr, refl, sym, subst, ◌∙◌, ap, arith}
use Rattle.std.specs.Prelude.{slice_get, All}
use Rattle.std.proofs.lemmas.Bool.{false≢true}
use Rattle.std.proofs.lemmas.List.Elements.{All-head, All-tail}
use Rattle.std.proofs.lemmas.Option.{slice_get_within, get_or_from_slice_get}
use Rattle.lrat_model.specs.Literal.{Literal, Plus, Minus, variable_of, negated, same, has}
use Rattle.lrat_model.proofs.Literals.{has-cons, variable_of-negated, same-itself}
use Rattle.counter_expansion.specs.Gates.{IsPlace, IsHeadOf, IsOuter, AreOuter, AreApart}
use Rattle.counter_expansion.specs.Counters.{gate_if_any, gates_of, cell_at, ArePlaced, AreKept, IsNowhere, AreNowhere, AreInputsNowhere}
use Rattle.counter_expansion.specs.declared.counters.Counter.{Counter}
use Rattle.counter_expansion.specs.declared.cells.Cell.{Cell}

-- past the places there is no more than one row
one_row : (last : Bool) (n : ℕ) → n ≤ suc (n - cond last 1 0)
one_row true n = omega arith
one_row false n = omega arith

-- the literals of places are positive
place_positive : (o : Option Counter) (i j : ℕ) → (gate_if_any o).s i j ≡ Plus (variable_of ((gate_if_any o).s i j))
place_positive None i j = refl
place_positive (Some c) i j = refl

one_row_stays : (o : Option Counter) → (gate_if_any o).n ≤ suc (gate_if_any o).rows
one_row_stays None = omega arith
one_row_stays (Some c) = one_row c.keeps_last (length c.inputs.items)

plus_no_minus : (l m : Literal) → l ≡ Plus (variable_of l) → m ≡ Plus (variable_of m) → l ≢ negated m
plus_no_minus (Plus x) (Plus y) _ _ e = false≢true (subst (λ k. same k (Plus x) ≡ true) e (same-itself (Plus x)))
plus_no_minus (Plus x) (Minus y) _ m_is _ = false≢true (subst (λ k. same k (Plus y) ≡ true) (sym m_is) (same-itself (Plus y)))
plus_no_minus (Minus x) m l_is _ _ = false≢true (subst (λ k. same k (Plus x) ≡ true) (sym l_is) (same-itself (Plus x)))

cell_parts : (g h i j a b : ℕ) (c : Cell) → c ≡ record { gate = g; row = i; column = j } → c ≡ record { gate = h; row = a; column = b } → (g ≡ h) × (i ≡ a) × (j ≡ b)
cell_parts g h i j a b c one other =
    let same_cell : record { gate = g; row = i; column = j } ≡ record { gate = h; row = a; column = b } = sym one ∙ other in
    (ap (λ (k : Cell). k.gate) same_cell, ap (λ (k : Cell). k.row) same_cell, ap (λ (k : Cell). k.column) same_cell)

not_row_zero : (i j : ℕ) → 1 ≤ j → j ≤ i → i ≡ 0 → ⊥
not_row_zero i j some less e = omega (arith, some, less, e)

-- the variables of these are in row 0
row_zero_of : (cells : List Cell) (vs : List ℕ) → AreNowhere cells vs → (h : Literal) → has (map Plus vs) h ≡ true → (cell_at cells (variable_of h)).row ≡ 0
row_zero_of cells [] nowhere h within = absurd (false≢true within)
row_zero_of cells (v ∷ vs) nowhere h within =
    ⊎_elim
    (λ (is : h ≡ Plus v). subst (λ (k : Literal). (cell_at cells (variable_of k)).row ≡ 0) (sym is) (All-head (λ x. (cell_at cells x).row ≡ 0) v vs nowhere))
    (λ later. row_zero_of cells vs (All-tail (λ x. (cell_at cells x).row ≡ 0) v vs nowhere) h later)
    (has-cons (Plus v) h (map Plus vs) within)

zero_within : (cells : List Cell) (clause : List Literal) → All (λ l. (cell_at cells (variable_of l)).row ≡ 0) clause → (m : Literal) → has clause m ≡ true → (cell_at cells (variable_of m)).row ≡ 0
zero_within cells [] zeros m within = absurd (false≢true within)
zero_within cells (l ∷ ls) zeros m within =
    ⊎_elim
    (λ (is : m ≡ l). subst (λ (k : Literal). (cell_at cells (variable_of k)).row ≡ 0) (sym is) (All-head (λ k. (cell_at cells (variable_of k)).row ≡ 0) l ls zeros))
    (λ later. zero_within cells ls (All-tail (λ k. (cell_at cells (variable_of k)).row ≡ 0) l ls zeros) m later)
    (has-cons l m ls within)

module _ (counters : List Counter) (cells : List Cell) (placed : ArePlaced counters cells) where
  -- a literal whose cell is in row 0 is no place's
  pub outer : (l : Literal) → (cell_at cells (variable_of l)).row ≡ 0 → IsOuter (gates_of counters) l
  outer l zero (g, i, j, place, which) =
      let at : cell_at cells (variable_of ((gates_of counters g).s i j)) ≡ record { gate = g; row = i; column = j } = placed g i j place in
      let alike : variable_of l ≡ variable_of ((gates_of counters g).s i j) = ⊎_elim
      (λ is. ap variable_of is)
      (λ denied. ap variable_of denied ∙ variable_of-negated ((gates_of counters g).s i j))
      which in
      let row : i ≡ 0 = sym (ap (λ (k : Cell). k.row) at) ∙ sym (ap (λ (x : ℕ). (cell_at cells x).row) alike) ∙ zero in
      not_row_zero i j place.1.0 place.1.1 row

  pub are_outer : (clause : List Literal) → All (λ l. (cell_at cells (variable_of l)).row ≡ 0) clause → AreOuter (gates_of counters) clause
  are_outer clause zeros m within = outer m (zero_within cells clause zeros m within)

  pub same_place : (g h i j a b : ℕ) → IsPlace (gates_of counters g) i j → IsPlace (gates_of counters h) a b → (gates_of counters g).s i j ≡ (gates_of counters h).s a b → (g ≡ h) × (i ≡ a) × (j ≡ b)
  same_place g h i j a b one other e =
      cell_parts g h i j a b (cell_at cells (variable_of ((gates_of counters g).s i j))) (placed g i j one)
      (ap (λ (l : Literal). cell_at cells (variable_of l)) e ∙ placed h a b other)

  not_negated : (g h i j a b : ℕ) → (gates_of counters g).s i j ≢ negated ((gates_of counters h).s a b)
  not_negated g h i j a b = plus_no_minus ((gates_of counters g).s i j) ((gates_of counters h).s a b) (place_positive (slice_get counters g) i j) (place_positive (slice_get counters h) a b)

  module _ (nowhere : AreInputsNowhere counters cells) where
    of_one : (g : ℕ) (c : Counter) → slice_get counters g ≡ Some c → AreNowhere cells c.inputs.items × AreNowhere cells c.heads.items × AreKept (IsNowhere cells) c
    of_one g c is = subst (λ (k : Counter). AreNowhere cells k.inputs.items × AreNowhere cells k.heads.items × AreKept (IsNowhere cells) k) (get_or_from_slice_get counters g c c is) (nowhere g c (slice_get_within counters g c is))

    inputs_zero : (g i : ℕ) (o : Option Counter) → slice_get counters g ≡ o → suc i ≤ (gate_if_any o).n → (cell_at cells (variable_of ((gate_if_any o).x (suc i)))).row ≡ 0
    inputs_zero g i None is less = absurd (omega (arith, less))
    inputs_zero g i (Some c) is less = (of_one g c is).0 (suc i - 1) 0 (omega (arith, less))

    heads_zero : (g t : ℕ) (h : Literal) (o : Option Counter) → slice_get counters g ≡ o → IsHeadOf (gate_if_any o) h t → (cell_at cells (variable_of h)).row ≡ 0
    heads_zero g t h None is (inl listed) = absurd (false≢true listed.0)
    heads_zero g t h None is (inr last) = absurd (omega (arith, last.0))
    heads_zero g t h (Some c) is (inl listed) = row_zero_of cells c.heads.items (of_one g c is).1 h listed.0
    heads_zero g t h (Some c) is (inr last) = subst (λ (k : Literal). (cell_at cells (variable_of k)).row ≡ 0) (sym last.2) ((of_one g c is).2 t last.0 last.1)

    pub apart : AreApart (gates_of counters)
    apart = record {
      same_place = same_place;
      not_negated = not_negated;
      inputs_outer = λ g i less. outer ((gates_of counters g).x (suc i)) (inputs_zero g i (slice_get counters g) refl less);
      heads_outer = λ g t h head. outer h (heads_zero g t h (slice_get counters g) refl head);
      one_row_stays = λ g. one_row_stays (slice_get counters g);
    }
