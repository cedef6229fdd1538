-- The places before and after a circuit's gates: the free variables rise, and each gate that is used again has one of those
-- before.
use Rattle.std.proofs.Common.{◌≡◌, ℕ, ◌+◌, ◌≤◌, ◌<◌, List, Option, Some, None, [], ◌∷◌, length, refl, ap, sym, ◌∙◌, arith}
use Rattle.threshold_circuit.specs.Circuits.{Circuit, Inputs, always, never, leaf, at_least, end_of_gate, input, NodesBelow, HasThresholds, HaveThresholds, IsOpen, AreOpen, all_inputs, all_inputs_of}
use Rattle.fbas_model.specs.Nodes.{Nodes}
use Rattle.threshold_circuit.specs.Gates.{own_variables}
use Rattle.clause_encoder.specs.declared.version.Version.{Version}
use Rattle.clause_encoder.specs.GateClauses.{gate_variable}
use Rattle.clause_encoder.specs.CircuitClauses.{Gate, Place, Written, WrittenInputs, variable_among, one_gate_more, gate_over, used_again, circuit_clauses, inputs_clauses}
use Rattle.clause_encoder.specs.Formula.{node_clauses, side_clauses}
use Rattle.clause_encoder.proofs.CircuitLaws.{inputs_written}
use Rattle.clause_encoder.proofs.CircuitFills.{gate_variables_some}
use Rattle.clause_encoder.specs.SharedGates.{EachGate, IsLow}
use Rattle.clause_encoder.proofs.SharedGates.{each_one_more, each_gate_map, among_holds, again_by, Differs, smaller_differs}

mutual
  pub circuit_grows : (version : Version) (p : ℕ → ℕ) (place : Place) (c : Circuit) → place.next ≤ (circuit_clauses version p place c).after.next
  circuit_grows version p place always = omega arith
  circuit_grows version p place never = omega arith
  circuit_grows version p place (leaf v) = omega arith
  circuit_grows version p place (at_least k inputs) =
      again_by (λ (w : Written). place.next ≤ w.after.next) place (variable_among place.gates (at_least k inputs)) (gate_over version k inputs (inputs_clauses version p place inputs))
      (λ none. omega (arith, inputs_grow version p place inputs)) (λ x found. omega arith)

  pub inputs_grow : (version : Version) (p : ℕ → ℕ) (place : Place) (inputs : Inputs) → place.next ≤ (inputs_clauses version p place inputs).after.next
  inputs_grow version p place end_of_gate = omega arith
  inputs_grow version p place (input c others) = omega (arith, circuit_grows version p place c, inputs_grow version p (circuit_clauses version p place c).after others)

pub low_more : (m n : ℕ) → m ≤ n → (gates : List Gate) → EachGate (IsLow m) gates → EachGate (IsLow n) gates
low_more m n more gates each = each_gate_map (IsLow m) (IsLow n) (λ c x low. (low.0, omega (arith, low.1))) gates each

pub over_low : (version : Version) (k : ℕ) (inputs : Inputs) (written : WrittenInputs) → 1 ≤ k → k ≤ length written.variables → 1 ≤ written.after.next → EachGate (IsLow written.after.next) written.after.gates → EachGate (IsLow (gate_over version k inputs written).after.next) (gate_over version k inputs written).after.gates
over_low version k inputs written low high some each =
    let n = length written.variables in
    let own = gate_variables_some k n low high in
    each_one_more version (IsLow (written.after.next + own_variables k n)) written.after.gates (at_least k inputs) (gate_variable written.after.next k n)
    (low_more written.after.next (written.after.next + own_variables k n) (omega arith) written.after.gates each)
    (omega (arith, some, own), omega (arith, own))

mutual
  pub circuit_gates_low : (version : Version) (p : ℕ → ℕ) (place : Place) (c : Circuit) → HasThresholds c → 1 ≤ place.next → EachGate (IsLow place.next) place.gates → EachGate (IsLow (circuit_clauses version p place c).after.next) (circuit_clauses version p place c).after.gates
  circuit_gates_low version p place always thresholds some each = each
  circuit_gates_low version p place never thresholds some each = each
  circuit_gates_low version p place (leaf v) thresholds some each = each
  circuit_gates_low version p place (at_least k inputs) thresholds some each =
      let written = inputs_clauses version p place inputs in
      again_by (λ (w : Written). EachGate (IsLow w.after.next) w.after.gates) place (variable_among place.gates (at_least k inputs)) (gate_over version k inputs written)
      (λ none. over_low version k inputs written thresholds.0 (omega (arith, thresholds.1, inputs_written version p place inputs)) (omega (arith, some, inputs_grow version p place inputs)) (inputs_gates_low version p place inputs thresholds.2 some each))
      (λ x found. each)

  pub inputs_gates_low : (version : Version) (p : ℕ → ℕ) (place : Place) (inputs : Inputs) → HaveThresholds inputs → 1 ≤ place.next → EachGate (IsLow place.next) place.gates → EachGate (IsLow (inputs_clauses version p place inputs).after.next) (inputs_clauses version p place inputs).after.gates
  inputs_gates_low version p place end_of_gate thresholds some each = each
  inputs_gates_low version p place (input c others) thresholds some each =
      let gate = circuit_clauses version p place c in
      inputs_gates_low version p gate.after others thresholds.1 (omega (arith, some, circuit_grows version p place c)) (circuit_gates_low version p place c thresholds.0 some each)

mutual
  pub open_thresholds : (inside : Nodes) (c : Circuit) → IsOpen inside c → HasThresholds c
  open_thresholds inside always is = tt
  open_thresholds inside never is = tt
  open_thresholds inside (leaf v) is = tt
  open_thresholds inside (at_least k inputs) is = (is.0, is.1, open_inputs inside inputs is.2)

  pub open_inputs : (inside : Nodes) (inputs : Inputs) → AreOpen inside inputs → HaveThresholds inputs
  open_inputs inside end_of_gate is = tt
  open_inputs inside (input c others) is = (open_thresholds inside c is.0, open_inputs inside others is.1)

-- the variable that stands for a circuit is below each bound that is above the nodes' variables, the gates before and the next
-- one
pub variable_room : (version : Version) (p : ℕ → ℕ) (n m : ℕ) (place : Place) (c : Circuit) → ((v : ℕ) → v < n → p v < m) → EachGate (IsLow place.next) place.gates → NodesBelow n c → (circuit_clauses version p place c).after.next < m → (circuit_clauses version p place c).variable < m
variable_room version p n m place always low each below room = room
variable_room version p n m place never low each below room = room
variable_room version p n m place (leaf v) low each below room = low v below
variable_room version p n m place (at_least k inputs) low each below room =
    again_by (λ (w : Written). w.after.next < m → w.variable < m) place (variable_among place.gates (at_least k inputs)) (gate_over version k inputs (inputs_clauses version p place inputs))
    (λ none now. omega (arith, now)) (λ x found now. omega (arith, now, (among_holds (IsLow place.next) place.gates (at_least k inputs) x each found).1)) room

pub node_grows : (version : Version) (p : ℕ → ℕ) (place : Place) (v : ℕ) (c : Circuit) → place.next ≤ (node_clauses version p place v c).after.next
node_grows version p place v always = omega arith
node_grows version p place v never = omega arith
node_grows version p place v (leaf w) = omega arith
node_grows version p place v (at_least k inputs) = circuit_grows version p place (at_least k inputs)

pub side_grows : (version : Version) (p : ℕ → ℕ) (circuit : ℕ → Circuit) (place : Place) (ns : List ℕ) → place.next ≤ (side_clauses version p circuit place ns).after.next
side_grows version p circuit place [] = omega arith
side_grows version p circuit place (v ∷ vs) = omega (arith, node_grows version p place v (circuit v), side_grows version p circuit (node_clauses version p place v (circuit v)).after vs)

pub node_gates_low : (version : Version) (p : ℕ → ℕ) (place : Place) (v : ℕ) (c : Circuit) → HasThresholds c → 1 ≤ place.next → EachGate (IsLow place.next) place.gates → EachGate (IsLow (node_clauses version p place v c).after.next) (node_clauses version p place v c).after.gates
node_gates_low version p place v always thresholds some each = each
node_gates_low version p place v never thresholds some each = each
node_gates_low version p place v (leaf w) thresholds some each = each
node_gates_low version p place v (at_least k inputs) thresholds some each = circuit_gates_low version p place (at_least k inputs) thresholds some each

-- ---- a circuit is none of the gates of what is smaller

mutual
  circuit_absent : (version : Version) (p : ℕ → ℕ) (whole : Circuit) (place : Place) (c : Circuit) → all_inputs c < all_inputs whole → EachGate (Differs whole) place.gates → EachGate (Differs whole) (circuit_clauses version p place c).after.gates
  circuit_absent version p whole place always low each = each
  circuit_absent version p whole place never low each = each
  circuit_absent version p whole place (leaf v) low each = each
  circuit_absent version p whole place (at_least k inputs) low each =
      let written = inputs_clauses version p place inputs in
      again_by (λ (w : Written). EachGate (Differs whole) w.after.gates) place (variable_among place.gates (at_least k inputs)) (gate_over version k inputs written)
      (λ none. each_one_more version (Differs whole) written.after.gates (at_least k inputs) (gate_variable written.after.next k (length written.variables))
      (inputs_absent version p whole place inputs (omega (arith, low)) each) (smaller_differs whole (at_least k inputs) low))
      (λ x found. each)

  pub inputs_absent : (version : Version) (p : ℕ → ℕ) (whole : Circuit) (place : Place) (inputs : Inputs) → all_inputs_of inputs ≤ all_inputs whole → EachGate (Differs whole) place.gates → EachGate (Differs whole) (inputs_clauses version p place inputs).after.gates
  inputs_absent version p whole place end_of_gate low each = each
  inputs_absent version p whole place (input c others) low each =
      inputs_absent version p whole (circuit_clauses version p place c).after others (omega (arith, low)) (circuit_absent version p whole place c (omega (arith, low)) each)

-- ---- the places do not ask for the nodes' variables

after_by : (found : Option ℕ) (place : Place) (w x : Written) → w.after ≡ x.after → (used_again found place w).after ≡ (used_again found place x).after
after_by None place w x same = same
after_by (Some y) place w x same = refl

over_after : (version : Version) (k : ℕ) (inputs : Inputs) (w x : WrittenInputs) → w.after ≡ x.after → length w.variables ≡ length x.variables → (gate_over version k inputs w).after ≡ (gate_over version k inputs x).after
over_after version k inputs w x same long =
    ap (λ (n : ℕ). (gate_over_at version k inputs w.after n)) long ∙ ap (λ (place : Place). gate_over_at version k inputs place (length x.variables)) same
  where
    gate_over_at : Version → ℕ → Inputs → Place → ℕ → Place
    gate_over_at version k inputs place n = record {
      next = place.next + own_variables k n;
      gates = one_gate_more version place.gates (at_least k inputs) (gate_variable place.next k n);
    }

mutual
  circuit_after : (version : Version) (p q : ℕ → ℕ) (place : Place) (c : Circuit) → (circuit_clauses version p place c).after ≡ (circuit_clauses version q place c).after
  circuit_after version p q place always = refl
  circuit_after version p q place never = refl
  circuit_after version p q place (leaf v) = refl
  circuit_after version p q place (at_least k inputs) =
      let w = inputs_clauses version p place inputs in
      let x = inputs_clauses version q place inputs in
      after_by (variable_among place.gates (at_least k inputs)) place (gate_over version k inputs w) (gate_over version k inputs x)
      (over_after version k inputs w x (inputs_after version p q place inputs) (inputs_written version p place inputs ∙ sym (inputs_written version q place inputs)))

  inputs_after : (version : Version) (p q : ℕ → ℕ) (place : Place) (inputs : Inputs) → (inputs_clauses version p place inputs).after ≡ (inputs_clauses version q place inputs).after
  inputs_after version p q place end_of_gate = refl
  inputs_after version p q place (input c others) =
      ap (λ (at : Place). (inputs_clauses version p at others).after) (circuit_after version p q place c)
      ∙ inputs_after version p q (circuit_clauses version q place c).after others

node_after : (version : Version) (p q : ℕ → ℕ) (place : Place) (v : ℕ) (c : Circuit) → (node_clauses version p place v c).after ≡ (node_clauses version q place v c).after
node_after version p q place v always = refl
node_after version p q place v never = refl
node_after version p q place v (leaf w) = refl
node_after version p q place v (at_least k inputs) = circuit_after version p q place (at_least k inputs)

pub side_after : (version : Version) (p q : ℕ → ℕ) (circuit : ℕ → Circuit) (place : Place) (ns : List ℕ) → (side_clauses version p circuit place ns).after ≡ (side_clauses version q circuit place ns).after
side_after version p q circuit place [] = refl
side_after version p q circuit place (v ∷ vs) =
    ap (λ (at : Place). (side_clauses version p circuit at vs).after) (node_after version p q place v (circuit v))
    ∙ side_after version p q circuit (node_clauses version q place v (circuit v)).after vs

-- the place after a node's part is that after its circuit
pub node_after_circuit : (version : Version) (p : ℕ → ℕ) (place : Place) (v : ℕ) (c : Circuit) → (node_clauses version p place v c).after ≡ (circuit_clauses version p place c).after
node_after_circuit version p place v always = refl
node_after_circuit version p place v never = refl
node_after_circuit version p place v (leaf w) = refl
node_after_circuit version p place v (at_least k inputs) = refl
