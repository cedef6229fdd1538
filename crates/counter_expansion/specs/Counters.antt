-- What the code has of gates with counters, and where the variables of their places are told.
use Rattle.std.specs.Prelude.{◌≡◌, ℕ, ◌+◌, ◌-◌, ◌<◌, cond, List, [], length, map, All, Option, None, Some, slice_get, slice_index_or}
use Rattle.lrat_model.specs.Literal.{Plus, variable_of}
use Rattle.counter_expansion.specs.Gates.{Gate, Gates, IsCell, IsPlace}
use Rattle.counter_expansion.specs.declared.counters.Counter.{Counter}
use Rattle.counter_expansion.specs.declared.cells.Cell.{Cell}

-- the number at a position, from 1 on
abbrev pub number_at : List ℕ → ℕ → ℕ
number_at numbers i = slice_index_or numbers (i - 1) 0

-- this many rows go where the counter is written out
abbrev pub rows_of : Counter → ℕ
rows_of c = length c.inputs.items - cond c.keeps_last 1 0

-- the gate of a counter: row i begins with the variable of cell (i, 1)
abbrev pub gate_of : Counter → Gate
gate_of c = record {
  n = length c.inputs.items;
  k = c.threshold;
  rows = rows_of c;
  x = λ i. Plus (number_at c.inputs.items i);
  s = λ i j. Plus (number_at c.rows.items i + (j - 1));
  heads = map Plus c.heads.items;
}

abbrev pub no_gate : Gate
no_gate = record { n = 0; k = 0; rows = 0; x = λ i. Plus 0; s = λ i j. Plus 0; heads = [] }

abbrev pub gate_if_any : Option Counter → Gate
gate_if_any None = no_gate
gate_if_any (Some c) = gate_of c

-- the gates by their numbers, from 0 on
abbrev pub gates_of : List Counter → Gates
gates_of counters = λ g. gate_if_any (slice_get counters g)

-- the cell of a variable; one in row 0 is that of no place
abbrev pub cell_at : List Cell → ℕ → Cell
cell_at cells v = slice_index_or cells v (record { gate = 0; row = 0; column = 0 })

-- the variable of each place has its cell
abbrev pub ArePlaced : List Counter → List Cell → Type 0
ArePlaced counters cells = (g i j : ℕ) → IsPlace (gates_of counters g) i j → cell_at cells (variable_of ((gates_of counters g).s i j)) ≡ record { gate = g; row = i; column = j }

-- so are the variables of the row that stays, if one does
abbrev pub AreKept : (ℕ → Type 0) → Counter → Type 0
AreKept P c = (j : ℕ) → rows_of c < length c.inputs.items → IsCell (gate_of c) (length c.inputs.items) j → P (number_at c.rows.items (length c.inputs.items) + (j - 1))

-- this variable is that of no place
abbrev pub IsNowhere : List Cell → ℕ → Type 0
IsNowhere cells v = (cell_at cells v).row ≡ 0

abbrev pub AreNowhere : List Cell → List ℕ → Type 0
AreNowhere cells variables = All (IsNowhere cells) variables

-- those of the inputs, the heads and the row that stays are those of no places
abbrev pub AreInputsNowhere : List Counter → List Cell → Type 0
AreInputsNowhere counters cells = All (λ c. AreNowhere cells c.inputs.items × AreNowhere cells c.heads.items × AreKept (IsNowhere cells) c) counters

-- this is a variable below the bound
abbrev pub IsVariable : ℕ → ℕ → Type 0
IsVariable bound v = (0 < v) × (v < bound)

abbrev pub AreVariables : ℕ → List ℕ → Type 0
AreVariables bound variables = All (IsVariable bound) variables

-- the inputs, the heads and the row that stays have such
abbrev pub HaveVariables : ℕ → List Counter → Type 0
HaveVariables bound counters = All (λ c. AreVariables bound c.inputs.items × AreVariables bound c.heads.items × AreKept (IsVariable bound) c) counters
