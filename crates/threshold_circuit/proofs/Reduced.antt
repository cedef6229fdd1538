-- A simplified circuit is decided as a whole, or nothing in it is; and it is no larger than its quorum set.
use Rattle.std.proofs.Common.{◌≡◌, ℕ, ◌-◌, ◌≤◌, ◌<◌, ◌==◌, Bool, true, false, nat_lt, if◌then◌else◌, refl, subst, sym, arith}
use Rattle.std.proofs.lemmas.Bool.Decides.{nat_tests}
use Rattle.fbas_model.specs.Nodes.{Nodes}
use Rattle.fbas_model.specs.Trees.{QuorumSet, quorum_set, Entries, none, node, inner}
use Rattle.fbas_model.specs.QuorumSets.{IsBelow, AreBelow, all_entries, all_entries_of}
use Rattle.threshold_circuit.specs.Circuits.{Circuit, Inputs, always, never, leaf, at_least, end_of_gate, input, input_count, all_inputs, all_inputs_of, NodesBelow, AllNodesBelow, HasThresholds, HaveThresholds, IsOpen, AreOpen, IsReduced}
use Rattle.threshold_circuit.specs.Simplified.{always_count, undecided, threshold_over, is_good_threshold, simplified, simplified_entries}

abbrev pub AreReduced : Nodes → Inputs → Type 0
AreReduced nodes end_of_gate = Unit {0}
AreReduced nodes (input c others) = IsReduced nodes c × AreReduced nodes others

undecided_open : (nodes : Nodes) (inputs : Inputs) → AreReduced nodes inputs → AreOpen nodes (undecided inputs)
undecided_open nodes end_of_gate h = tt
undecided_open nodes (input always others) h = undecided_open nodes others h.1
undecided_open nodes (input never others) h = undecided_open nodes others h.1
undecided_open nodes (input (leaf v) others) h = (h.0, undecided_open nodes others h.1)
undecided_open nodes (input (at_least k inputs) others) h = (h.0, undecided_open nodes others h.1)

threshold_by : (nodes : Nodes) (k : ℕ) (inputs : Inputs) (zero_left too_many : Bool) → (k == 0) ≡ zero_left → nat_lt (input_count inputs) k ≡ too_many → AreOpen nodes inputs → IsReduced nodes (if zero_left then always else (if too_many then never else at_least k inputs))
threshold_by nodes k inputs true too_many is_zero is_many all = tt
threshold_by nodes k inputs false true is_zero is_many all = tt
threshold_by nodes k inputs false false is_zero is_many all = (grind (arith, nat_tests), grind (arith, nat_tests), all)

validator_reduced : (nodes : Nodes) (v : ℕ) (faulty greatest : Bool) → nodes v ≡ greatest → IsReduced nodes (if faulty then always else (if greatest then leaf v else never))
validator_reduced nodes v true greatest is = tt
validator_reduced nodes v false true is = is
validator_reduced nodes v false false is = tt

set_reduced : (nodes : Nodes) (k : ℕ) (good : Bool) (inputs : Inputs) → AreReduced nodes inputs → IsReduced nodes (if good then threshold_over (k - always_count inputs) (undecided inputs) else never)
set_reduced nodes k true inputs h = threshold_by nodes (k - always_count inputs) (undecided inputs) (k - always_count inputs == 0) (nat_lt (input_count (undecided inputs)) (k - always_count inputs)) refl refl (undecided_open nodes inputs h)
set_reduced nodes k false inputs h = tt

mutual
  pub simplified_reduced : (greatest faulty : Nodes) (q : QuorumSet) → IsReduced greatest (simplified greatest faulty q)
  simplified_reduced greatest faulty (quorum_set k entries) = set_reduced greatest k (is_good_threshold k entries) (simplified_entries greatest faulty entries) (entries_reduced greatest faulty entries)

  entries_reduced : (greatest faulty : Nodes) (entries : Entries) → AreReduced greatest (simplified_entries greatest faulty entries)
  entries_reduced greatest faulty none = tt
  entries_reduced greatest faulty (node v rest) = (validator_reduced greatest v (faulty v) (greatest v) refl, entries_reduced greatest faulty rest)
  entries_reduced greatest faulty (inner q rest) = (simplified_reduced greatest faulty q, entries_reduced greatest faulty rest)

mutual
  open_thresholds : (nodes : Nodes) (c : Circuit) → IsOpen nodes c → HasThresholds c
  open_thresholds nodes always h = tt
  open_thresholds nodes never h = tt
  open_thresholds nodes (leaf v) h = tt
  open_thresholds nodes (at_least k inputs) h = (h.0, h.1, open_inputs nodes inputs h.2)

  open_inputs : (nodes : Nodes) (inputs : Inputs) → AreOpen nodes inputs → HaveThresholds inputs
  open_inputs nodes end_of_gate h = tt
  open_inputs nodes (input c others) h = (open_thresholds nodes c h.0, open_inputs nodes others h.1)

pub reduced_thresholds : (nodes : Nodes) (c : Circuit) → IsReduced nodes c → HasThresholds c
reduced_thresholds nodes always h = tt
reduced_thresholds nodes never h = tt
reduced_thresholds nodes (leaf v) h = tt
reduced_thresholds nodes (at_least k inputs) h = open_thresholds nodes (at_least k inputs) h

-- ---- the nodes

undecided_below : (n : ℕ) (inputs : Inputs) → AllNodesBelow n inputs → AllNodesBelow n (undecided inputs)
undecided_below n end_of_gate h = tt
undecided_below n (input always others) h = undecided_below n others h.1
undecided_below n (input never others) h = undecided_below n others h.1
undecided_below n (input (leaf v) others) h = (h.0, undecided_below n others h.1)
undecided_below n (input (at_least k inputs) others) h = (h.0, undecided_below n others h.1)

threshold_below : (n k : ℕ) (inputs : Inputs) (zero_left too_many : Bool) → AllNodesBelow n inputs → NodesBelow n (if zero_left then always else (if too_many then never else at_least k inputs))
threshold_below n k inputs true too_many h = tt
threshold_below n k inputs false true h = tt
threshold_below n k inputs false false h = h

validator_below : (n v : ℕ) (faulty greatest : Bool) → v < n → NodesBelow n (if faulty then always else (if greatest then leaf v else never))
validator_below n v true greatest h = tt
validator_below n v false true h = h
validator_below n v false false h = tt

set_below : (n k : ℕ) (good : Bool) (inputs : Inputs) → AllNodesBelow n inputs → NodesBelow n (if good then threshold_over (k - always_count inputs) (undecided inputs) else never)
set_below n k true inputs h = threshold_below n (k - always_count inputs) (undecided inputs) (k - always_count inputs == 0) (nat_lt (input_count (undecided inputs)) (k - always_count inputs)) (undecided_below n inputs h)
set_below n k false inputs h = tt

mutual
  pub simplified_below : (greatest faulty : Nodes) (n : ℕ) (q : QuorumSet) → IsBelow n q → NodesBelow n (simplified greatest faulty q)
  simplified_below greatest faulty n (quorum_set k entries) h = set_below n k (is_good_threshold k entries) (simplified_entries greatest faulty entries) (entries_below greatest faulty n entries h)

  entries_below : (greatest faulty : Nodes) (n : ℕ) (entries : Entries) → AreBelow n entries → AllNodesBelow n (simplified_entries greatest faulty entries)
  entries_below greatest faulty n none h = tt
  entries_below greatest faulty n (node v rest) h = (validator_below n v (faulty v) (greatest v) h.0, entries_below greatest faulty n rest h.1)
  entries_below greatest faulty n (inner q rest) h = (simplified_below greatest faulty n q h.0, entries_below greatest faulty n rest h.1)

-- ---- the number of inputs

undecided_few : (inputs : Inputs) → all_inputs_of (undecided inputs) ≤ all_inputs_of inputs
undecided_few end_of_gate = omega arith
undecided_few (input always others) = omega (arith, undecided_few others)
undecided_few (input never others) = omega (arith, undecided_few others)
undecided_few (input (leaf v) others) = omega (arith, undecided_few others)
undecided_few (input (at_least k inputs) others) = omega (arith, undecided_few others)

threshold_few : (k : ℕ) (inputs : Inputs) (zero_left too_many : Bool) → all_inputs (if zero_left then always else (if too_many then never else at_least k inputs)) ≤ all_inputs_of inputs
threshold_few k inputs true too_many = omega arith
threshold_few k inputs false true = omega arith
threshold_few k inputs false false = omega arith

validator_few : (v : ℕ) (faulty greatest : Bool) → all_inputs (if faulty then always else (if greatest then leaf v else never)) ≤ 0
validator_few v true greatest = omega arith
validator_few v false true = omega arith
validator_few v false false = omega arith

set_few : (k : ℕ) (good : Bool) (inputs : Inputs) → all_inputs (if good then threshold_over (k - always_count inputs) (undecided inputs) else never) ≤ all_inputs_of inputs
set_few k true inputs = omega (arith, threshold_few (k - always_count inputs) (undecided inputs) (k - always_count inputs == 0) (nat_lt (input_count (undecided inputs)) (k - always_count inputs)), undecided_few inputs)
set_few k false inputs = omega arith

mutual
  pub simplified_few : (greatest faulty : Nodes) (q : QuorumSet) → all_inputs (simplified greatest faulty q) ≤ all_entries q
  simplified_few greatest faulty (quorum_set k entries) = omega (arith, set_few k (is_good_threshold k entries) (simplified_entries greatest faulty entries), entries_few greatest faulty entries)

  entries_few : (greatest faulty : Nodes) (entries : Entries) → all_inputs_of (simplified_entries greatest faulty entries) ≤ all_entries_of entries
  entries_few greatest faulty none = omega arith
  entries_few greatest faulty (node v rest) = omega (arith, validator_few v (faulty v) (greatest v), entries_few greatest faulty rest)
  entries_few greatest faulty (inner q rest) = omega (arith, simplified_few greatest faulty q, entries_few greatest faulty rest)

-- ---- all of it, of a circuit that is the simplification

pub record Facts (greatest faulty : Nodes) (n : ℕ) (q : QuorumSet) (c : Circuit) : Type 0 where
  pub circuit : c ≡ simplified greatest faulty q
  pub below : NodesBelow n c
  pub reduced : IsReduced greatest c
  pub thresholds : HasThresholds c
  pub few : all_inputs c ≤ all_entries q

pub facts : (greatest faulty : Nodes) (n : ℕ) (q : QuorumSet) (c : Circuit) → IsBelow n q → c ≡ simplified greatest faulty q → Facts greatest faulty n q c
facts greatest faulty n q c low e =
    let reduced : IsReduced greatest c = subst (IsReduced greatest) (sym e) (simplified_reduced greatest faulty q) in
    record {
      circuit = e;
      below = subst (NodesBelow n) (sym e) (simplified_below greatest faulty n q low);
      reduced = reduced;
      thresholds = reduced_thresholds greatest c reduced;
      few = subst (λ (d : Circuit). all_inputs d ≤ all_entries q) (sym e) (simplified_few greatest faulty q);
    }
