-- The clauses of a side are over the variables before the place after it: over any variables and circuits.
use Rattle.std.proofs.Common.{◌≡◌, ℕ, zero, suc, ◌+◌, ◌≤◌, ◌<◌, min, ◌==◌, Bool, true, false, nat_le, not, if◌then◌else◌, List, [], ◌∷◌, ◌++◌, length, map, filter, refl, arith}
use Rattle.std.proofs.lemmas.Bool.{leb-true, false≢true}
use Rattle.fbas_model.specs.Nodes.{Nodes}
use Rattle.lrat_model.specs.Literal.{Literal, Plus, Minus}
use Rattle.threshold_circuit.specs.Circuits.{Circuit, Inputs, always, never, leaf, at_least, end_of_gate, input, IsOpen, AreOpen}
use Rattle.threshold_circuit.specs.Gates.{before_row, own_variables}
use Rattle.clause_encoder.specs.Counter.{counter_variable, carried, cell_clauses, row_clauses, counter_clauses}
use Rattle.clause_encoder.specs.GateClauses.{without_repeats, every_clauses, some_clauses, gate_clauses}
use Rattle.clause_encoder.specs.declared.version.Version.{Version}
use Rattle.clause_encoder.specs.CircuitClauses.{Place, Written, WrittenInputs, variable_among, gate_over, stands_for, circuit_clauses, inputs_clauses}
use Rattle.clause_encoder.specs.Formula.{Part, with_gate, node_clauses, side_clauses, some_node, no_node_on_both}
use Rattle.clause_encoder.specs.SharedGates.{EachGate, IsLow}
use Rattle.clause_encoder.proofs.Numbering.{counter_variable_below}
use Rattle.clause_encoder.proofs.GateFills.{Below}
use Rattle.clause_encoder.proofs.CircuitLaws.{inputs_written}
use Rattle.clause_encoder.proofs.CircuitFills.{VariablesBelow, below_more, gate_variables_some}
use Rattle.clause_encoder.proofs.SharedGates.{among_holds, again_by}
use Rattle.clause_encoder.proofs.PlaceLaws.{over_low}
use Rattle.clause_encoder.proofs.Members.{Each}
use Rattle.clause_encoder.proofs.QuorumLaws.{IsReady}
use Rattle.clause_encoder.proofs.RangeLaws.{LiteralsBelow, ClausesBelow, clauses_both}

literals_both : (m : ℕ) (xs ys : List Literal) → LiteralsBelow m xs → LiteralsBelow m ys → LiteralsBelow m (xs ++ ys)
literals_both m [] ys g h = h
literals_both m (x ∷ xs) ys g h = (g.0, literals_both m xs ys g.1 h)

literals_more : (m n : ℕ) (xs : List Literal) → m ≤ n → LiteralsBelow m xs → LiteralsBelow n xs
literals_more m n [] le h = tt
literals_more m n (x ∷ xs) le h = (omega (arith, le, h.0), literals_more m n xs le h.1)

pub clauses_more : (m n : ℕ) (xs : List (List Literal)) → m ≤ n → ClausesBelow m xs → ClausesBelow n xs
clauses_more m n [] le h = tt
clauses_more m n (x ∷ xs) le h = (literals_more m n x le h.0, clauses_more m n xs le h.1)

-- ---- a gate

every_below : (m z : ℕ) (xs : List ℕ) → z < m → Below m xs → ClausesBelow m (every_clauses z xs)
every_below m z [] low h = tt
every_below m z (x ∷ xs) low h = ((low, (h.0, tt)), every_below m z xs low h.1)

filter_by : (m y : ℕ) (rest : List ℕ) (kept : Bool) → y < m → Below m rest → Below m (if kept then y ∷ rest else rest)
filter_by m y rest true low h = (low, h)
filter_by m y rest false low h = h

filter_below : (m x : ℕ) (ys : List ℕ) → Below m ys → Below m (filter (λ y. not (y == x)) ys)
filter_below m x [] h = tt
filter_below m x (y ∷ ys) h = filter_by m y (filter (λ z. not (z == x)) ys) (not (y == x)) h.0 (filter_below m x ys h.1)

firsts_below : (m : ℕ) (xs : List ℕ) → Below m xs → Below m (without_repeats xs)
firsts_below m [] h = tt
firsts_below m (x ∷ xs) h = (h.0, filter_below m x (without_repeats xs) (firsts_below m xs h.1))

pluses_below : (m : ℕ) (xs : List ℕ) → Below m xs → LiteralsBelow m (map Plus xs)
pluses_below m [] h = tt
pluses_below m (x ∷ xs) h = (h.0, pluses_below m xs h.1)

some_below : (m z : ℕ) (xs : List ℕ) → z < m → Below m xs → ClausesBelow m (some_clauses z xs)
some_below m z xs low h = ((low, pluses_below m (without_repeats xs) (firsts_below m xs h)), tt)

-- each cell of the rows up to i is below m
abbrev pub CellsBelow : ℕ → (ℕ → ℕ → ℕ) → ℕ → ℕ → Type 0
CellsBelow m s k n = (i j : ℕ) → i ≤ n → 1 ≤ j → j ≤ min i k → s i j < m

carried_by : (m z : ℕ) (b : Bool) → (b ≡ true → z < m) → LiteralsBelow m (if b then Plus z ∷ [] else [])
carried_by m z true h = (h refl, tt)
carried_by m z false h = tt

carried_below : (m : ℕ) (s : ℕ → ℕ → ℕ) (k n i j : ℕ) → CellsBelow m s k n → i ≤ n → 1 ≤ j → j ≤ k → LiteralsBelow m (carried (s i) i j)
carried_below m s k n i j cells row low high = carried_by m (s i j) (nat_le j i) (λ within. let at : j ≤ i = leb-true j i within in cells i j row low (omega (arith, at, high)))

cell_below : (m : ℕ) (s : ℕ → ℕ → ℕ) (k n i x j : ℕ) → CellsBelow m s k n → suc i ≤ n → x < m → j ≤ min (suc i) k → ClausesBelow m (cell_clauses (s i) (s (suc i)) i x j)
cell_below m s k n i x zero cells row given high = tt
cell_below m s k n i x (suc zero) cells row given high =
    ((cells (suc i) 1 row (omega arith) high, literals_both m (carried (s i) i 1) (Plus x ∷ []) (carried_below m s k n i 1 cells (omega arith) (omega arith) (omega arith)) (given, tt)), tt)
cell_below m s k n i x (suc (suc j)) cells row given high =
    let own = cells (suc i) (suc (suc j)) row (omega arith) high in
    let above = carried_below m s k n i (suc (suc j)) cells (omega arith) (omega arith) (omega arith) in (
      (own, literals_both m (carried (s i) i (suc (suc j))) (Plus x ∷ []) above (given, tt)),
      ((own, literals_both m (carried (s i) i (suc (suc j))) (Plus (s i (suc j)) ∷ []) above (cells i (suc j) (omega arith) (omega arith) (omega arith), tt)), tt),
    )

row_below : (m : ℕ) (s : ℕ → ℕ → ℕ) (k n i x w : ℕ) → CellsBelow m s k n → suc i ≤ n → x < m → w ≤ min (suc i) k → ClausesBelow m (row_clauses (s i) (s (suc i)) i x w)
row_below m s k n i x zero cells row given high = tt
row_below m s k n i x (suc w) cells row given high =
    clauses_both m (row_clauses (s i) (s (suc i)) i x w) (cell_clauses (s i) (s (suc i)) i x (suc w)) (row_below m s k n i x w cells row given (omega arith)) (cell_below m s k n i x (suc w) cells row given high)

rows_below : (m : ℕ) (s : ℕ → ℕ → ℕ) (k n i : ℕ) (xs : List ℕ) → CellsBelow m s k n → i + length xs ≤ n → Below m xs → ClausesBelow m (counter_clauses s k i xs)
rows_below m s k n i [] cells rows h = tt
rows_below m s k n i (x ∷ xs) cells rows h =
    clauses_both m (row_clauses (s i) (s (suc i)) i x (min (suc i) k)) (counter_clauses s k (suc i) xs)
    (row_below m s k n i x (min (suc i) k) cells (omega (arith, rows)) h.0 (omega arith))
    (rows_below m s k n (suc i) xs cells (omega (arith, rows)) h.1)

gate_by : (first k : ℕ) (xs : List ℕ) (every some : Bool) → Below first xs →
    ClausesBelow (first + (if every then 1 else (if some then 1 else before_row k (suc (length xs))))) (if every then every_clauses first xs else (if some then some_clauses first xs else counter_clauses (counter_variable first k) k 0 xs))
gate_by first k xs true some h = every_below (first + 1) first xs (omega arith) (below_more first (first + 1) xs (omega arith) h)
gate_by first k xs false true h = some_below (first + 1) first xs (omega arith) (below_more first (first + 1) xs (omega arith) h)
gate_by first k xs false false h =
    let m = first + before_row k (suc (length xs)) in
    rows_below m (counter_variable first k) k (length xs) 0 xs (λ i j row low high. counter_variable_below first k (length xs) i j row low high) (omega arith) (below_more first m xs (omega arith) h)

gate_below : (first k : ℕ) (xs : List ℕ) → Below first xs → ClausesBelow (first + own_variables k (length xs)) (gate_clauses first k xs)
gate_below first k xs h = gate_by first k xs (k == length xs) (k == 1) h

-- ---- a circuit

-- what is written is over the variables before the place after it, and so are the gates that are used again
record IsWithin (place : Place) (written : Written) : Type 0 where
  grows : place.next ≤ written.after.next
  within : written.variable < written.after.next
  clauses : ClausesBelow written.after.next written.clauses
  gates : EachGate (IsLow written.after.next) written.after.gates

record AreWithin (place : Place) (written : WrittenInputs) : Type 0 where
  grows : place.next ≤ written.after.next
  within : Below written.after.next written.variables
  clauses : ClausesBelow written.after.next written.clauses
  gates : EachGate (IsLow written.after.next) written.after.gates

stands_within : (place : Place) (x : ℕ) → x < place.next → EachGate (IsLow place.next) place.gates → IsWithin place (stands_for place x)
stands_within place x low each = record { grows = omega arith; within = low; clauses = tt; gates = each }

over_within : (version : Version) (place : Place) (k : ℕ) (inputs : Inputs) (written : WrittenInputs) → 1 ≤ place.next → 1 ≤ k → k ≤ length written.variables → AreWithin place written → IsWithin place (gate_over version k inputs written)
over_within version place k inputs written some low high all =
    let n = length written.variables in
    let next = written.after.next + own_variables k n in
    let own = gate_variables_some k n low high in
    record {
      grows = omega (arith, all.grows);
      within = omega (arith, own);
      clauses = clauses_both next written.clauses (gate_clauses written.after.next k written.variables)
          (clauses_more written.after.next next written.clauses (omega arith) all.clauses)
          (gate_below written.after.next k written.variables all.within);
      gates = over_low version k inputs written low high (omega (arith, some, all.grows)) all.gates;
    }

mutual
  circuit_within : (version : Version) (p : ℕ → ℕ) (inside : Nodes) (place : Place) (c : Circuit) → 1 ≤ place.next → VariablesBelow p inside place.next → IsOpen inside c → EachGate (IsLow place.next) place.gates → IsWithin place (circuit_clauses version p place c)
  circuit_within version p inside place always some low whole each = absurd whole
  circuit_within version p inside place never some low whole each = absurd whole
  circuit_within version p inside place (leaf v) some low whole each = stands_within place (p v) (low v whole) each
  circuit_within version p inside place (at_least k inputs) some low whole each =
      let written = inputs_clauses version p place inputs in
      again_by (IsWithin place) place (variable_among place.gates (at_least k inputs)) (gate_over version k inputs written)
      (λ none. over_within version place k inputs written some whole.0 (omega (arith, inputs_written version p place inputs, whole.1)) (inputs_within version p inside place inputs some low whole.2 each))
      (λ x found. stands_within place x (among_holds (IsLow place.next) place.gates (at_least k inputs) x each found).1 each)

  inputs_within : (version : Version) (p : ℕ → ℕ) (inside : Nodes) (place : Place) (inputs : Inputs) → 1 ≤ place.next → VariablesBelow p inside place.next → AreOpen inside inputs → EachGate (IsLow place.next) place.gates → AreWithin place (inputs_clauses version p place inputs)
  inputs_within version p inside place end_of_gate some low whole each = record { grows = omega arith; within = tt; clauses = tt; gates = each }
  inputs_within version p inside place (input c others) some low whole each =
      let gate = circuit_clauses version p place c in
      let here = circuit_within version p inside place c some low whole.0 each in
      let low' : VariablesBelow p inside gate.after.next = (λ n is. omega (arith, low n is, here.grows)) in
      let written = inputs_clauses version p gate.after others in
      let rest = inputs_within version p inside gate.after others (omega (arith, some, here.grows)) low' whole.1 here.gates in
      record {
        grows = omega (arith, here.grows, rest.grows);
        within = (omega (arith, here.within, rest.grows), rest.within);
        clauses = clauses_both written.after.next gate.clauses written.clauses (clauses_more gate.after.next written.after.next gate.clauses rest.grows here.clauses) rest.clauses;
        gates = rest.gates;
      }

-- ---- the sides

pub record IsPartWithin (place : Place) (part : Part) : Type 0 where
  pub grows : place.next ≤ part.after.next
  pub clauses : ClausesBelow part.after.next part.clauses
  pub gates : EachGate (IsLow part.after.next) part.after.gates

tied_within : (version : Version) (p : ℕ → ℕ) (inside : Nodes) (place : Place) (v : ℕ) (c : Circuit) → 1 ≤ place.next → VariablesBelow p inside place.next → IsOpen inside c → EachGate (IsLow place.next) place.gates → inside v ≡ true → IsPartWithin place (with_gate (p v) (circuit_clauses version p place c))
tied_within version p inside place v c some low whole each is =
    let gate = circuit_clauses version p place c in
    let here = circuit_within version p inside place c some low whole each in
    record {
      grows = here.grows;
      clauses = clauses_both gate.after.next gate.clauses ((Minus (p v) ∷ Plus gate.variable ∷ []) ∷ []) here.clauses ((omega (arith, low v is, here.grows), (here.within, tt)), tt);
      gates = here.gates;
    }

node_within : (version : Version) (p : ℕ → ℕ) (inside : Nodes) (place : Place) (v : ℕ) (c : Circuit) → 1 ≤ place.next → VariablesBelow p inside place.next → IsReady inside c → EachGate (IsLow place.next) place.gates → inside v ≡ true → IsPartWithin place (node_clauses version p place v c)
node_within version p inside place v always some low ok each is = record { grows = omega arith; clauses = tt; gates = each }
node_within version p inside place v never some low ok each is = absurd (false≢true ok.1)
node_within version p inside place v (leaf w) some low ok each is = tied_within version p inside place v (leaf w) some low ok.0 each is
node_within version p inside place v (at_least k inputs) some low ok each is = tied_within version p inside place v (at_least k inputs) some low ok.0 each is

pub side_within : (version : Version) (p : ℕ → ℕ) (inside : Nodes) (circuit : ℕ → Circuit) (place : Place) (vs : List ℕ) → 1 ≤ place.next → VariablesBelow p inside place.next → Each (λ v. IsReady inside (circuit v)) vs → EachGate (IsLow place.next) place.gates → Each (λ v. inside v ≡ true) vs → IsPartWithin place (side_clauses version p circuit place vs)
side_within version p inside circuit place [] some low ok each is = record { grows = omega arith; clauses = tt; gates = each }
side_within version p inside circuit place (v ∷ vs) some low ok each is =
    let part = node_clauses version p place v (circuit v) in
    let here = node_within version p inside place v (circuit v) some low ok.0 each is.0 in
    let after = side_clauses version p circuit part.after vs in
    let rest = side_within version p inside circuit part.after vs (omega (arith, some, here.grows)) (λ n at. omega (arith, low n at, here.grows)) ok.1 here.gates is.1 in
    record {
      grows = omega (arith, here.grows, rest.grows);
      clauses = clauses_both after.after.next part.clauses after.clauses (clauses_more part.after.next after.after.next part.clauses rest.grows here.clauses) rest.clauses;
      gates = rest.gates;
    }

pub some_node_below : (m : ℕ) (p : ℕ → ℕ) (vs : List ℕ) → Each (λ v. p v < m) vs → LiteralsBelow m (some_node p vs)
some_node_below m p [] h = tt
some_node_below m p (v ∷ vs) h = (h.0, some_node_below m p vs h.1)

pub both_below : (m : ℕ) (p q : ℕ → ℕ) (vs : List ℕ) → Each (λ v. p v < m) vs → Each (λ v. q v < m) vs → ClausesBelow m (no_node_on_both p q vs)
both_below m p q [] g h = tt
both_below m p q (v ∷ vs) g h = ((g.0, (h.0, tt)), both_below m p q vs g.1 h.1)
