-- A counter of the true ones among names (Sinz 2005, the sequential counter, in one direction): its variable t(i, j) tells that at least j of the names 1 to i are true.
use Rattle.std.specs.Prelude.{ℕ, zero, suc, ◌+◌, ◌-◌, Bool, false, List, [], ◌∷◌, ◌++◌, nat_le, nat_lt, if◌then◌else◌}
use Rattle.lrat_model.specs.Literal.{Literal, Plus, Minus}

-- 1 + 2 + .. + (i - 1), how many variables the rows before row i have
abbrev pub cells_before : ℕ → ℕ
cells_before zero = 0
cells_before (suc i) = cells_before i + i

-- the variable t(i, j), after those of the g names, which are 1 to g
abbrev pub counted : ℕ → ℕ → ℕ → ℕ
counted g i j = g + cells_before i + j

abbrev pub counter_vars : ℕ → ℕ
counter_vars g = g + cells_before (g + 1)

-- where j of the first i names are true, j of the first i + 1 are
abbrev pub carry : ℕ → ℕ → ℕ → List Literal
carry g i j = Minus (counted g i j) ∷ Plus (counted g (i + 1) j) ∷ []

-- and where name i + 1 is true too, one more; the first of all needs none before it
abbrev pub one_more : ℕ → ℕ → ℕ → List Literal
one_more g i zero = Minus (i + 1) ∷ Plus (counted g (i + 1) 1) ∷ []
one_more g i (suc j) = Minus (i + 1) ∷ Minus (counted g i (suc j)) ∷ Plus (counted g (i + 1) (suc j + 1)) ∷ []

-- the clauses of t(i + 1, j + 1)
abbrev pub cell_of : ℕ → ℕ → ℕ → List (List Literal)
cell_of g i j = if nat_lt j i then carry g i (j + 1) ∷ one_more g i j ∷ [] else one_more g i j ∷ []

-- those of row i + 1 up to t(i + 1, n)
abbrev pub row_of : ℕ → ℕ → ℕ → List (List Literal)
row_of g i zero = []
row_of g i (suc j) = row_of g i j ++ cell_of g i j

-- those of the first n rows
abbrev pub rows_of : ℕ → ℕ → List (List Literal)
rows_of g zero = []
rows_of g (suc i) = rows_of g i ++ row_of g i (i + 1)

abbrev pub counter_of : ℕ → List (List Literal)
counter_of g = rows_of g g

-- ---- what it counts

-- how many of the first i names are true
abbrev pub true_count : (ℕ → Bool) → ℕ → ℕ
true_count v zero = 0
true_count v (suc i) = if v (i + 1) then true_count v i + 1 else true_count v i

-- the value of the n-th variable from row i on, where t(i, j) tells just that j of the first i names are true
abbrev pub cell_value : (ℕ → Bool) → ℕ → ℕ → ℕ → Bool
cell_value v zero i n = false
cell_value v (suc left) i n = if nat_le n i then nat_le n (true_count v i) else cell_value v left (i + 1) (n - i)

-- the assignment of the names, and of what is counted of them
abbrev pub extended : (ℕ → Bool) → ℕ → ℕ → Bool
extended v g x = if nat_le x g then v x else cell_value v (g + 1) 1 (x - g)
