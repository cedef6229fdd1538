-- A simplified circuit is true exactly where its quorum set is satisfied.
use Rattle.std.proofs.Common.{◌≡◌, ℕ, ◌+◌, ◌-◌, ◌≤◌, ◌==◌, ◌↔◌, IsTrue, Bool, true, false, nat_le, nat_lt, ◌&&◌, ◌||◌, if◌then◌else◌, refl, ap, ◌∙◌, sym, arith}
use Rattle.std.proofs.lemmas.Bool.Decides.{nat_tests}
use Rattle.std.proofs.Math.Bool.{or-true, or-false}
use Rattle.fbas_model.specs.Nodes.{Nodes, ◌⊆◌, ◌∪◌}
use Rattle.fbas_model.specs.Trees.{QuorumSet, quorum_set, Entries, none, node, inner}
use Rattle.fbas_model.specs.QuorumSets.{count, HasChoiceWithin}
use Rattle.fbas_model.specs.Counting.{is_satisfied, count_met}
use Rattle.fbas_model.proofs.Counting.{count_met_le-count, choice_satisfied, satisfied_choice}
use Rattle.threshold_circuit.specs.Circuits.{Circuit, Inputs, always, never, leaf, at_least, end_of_gate, input, input_count}
use Rattle.threshold_circuit.specs.Value.{circuit_value, count_true}
use Rattle.threshold_circuit.specs.Simplified.{always_count, undecided, threshold_over, simplified, simplified_entries}

undecided_count : (u : Nodes) (inputs : Inputs) → count_true u inputs ≡ always_count inputs + count_true u (undecided inputs)
undecided_count u end_of_gate = refl
undecided_count u (input always others) = omega (arith, undecided_count u others)
undecided_count u (input never others) = omega (arith, undecided_count u others)
undecided_count u (input (leaf v) others) = omega (arith, undecided_count u others)
undecided_count u (input (at_least k inputs) others) = omega (arith, undecided_count u others)

pub one_at_most : (b : Bool) → (if b then 1 else 0) ≤ 1
one_at_most true = omega arith
one_at_most false = omega arith

pub count_true-le : (u : Nodes) (inputs : Inputs) → count_true u inputs ≤ input_count inputs
count_true-le u end_of_gate = omega arith
count_true-le u (input c others) = omega (arith, one_at_most (circuit_value u c), count_true-le u others)

too_few : (t n k : ℕ) → t ≤ n → nat_lt n k ≡ true → false ≡ nat_le k t
too_few t n k few is_many = grind (arith, nat_tests)

absent : (b : Bool) → (b ≡ true → false ≡ true) → false ≡ (b || false)
absent true h = h refl
absent false h = refl

by_tests : (u : Nodes) (k : ℕ) (inputs : Inputs) (zero_left too_many : Bool) → (k == 0) ≡ zero_left → nat_lt (input_count inputs) k ≡ too_many → circuit_value u (if zero_left then always else (if too_many then never else at_least k inputs)) ≡ nat_le k (count_true u inputs)
by_tests u k inputs true too_many is_zero is_many = grind (arith, nat_tests)
by_tests u k inputs false true is_zero is_many = too_few (count_true u inputs) (input_count inputs) k (count_true-le u inputs) is_many
by_tests u k inputs false false is_zero is_many = refl

threshold_value : (u : Nodes) (k : ℕ) (inputs : Inputs) → circuit_value u (threshold_over k inputs) ≡ nat_le k (count_true u inputs)
threshold_value u k inputs = by_tests u k inputs (k == 0) (nat_lt (input_count inputs) k) refl refl

lowered : (k a t : ℕ) → nat_le (k - a) t ≡ nat_le k (a + t)
lowered k a t = grind (arith, nat_tests)

validator_by : (u : Nodes) (v : ℕ) (faulty greatest : Bool) → (u v ≡ true → greatest ≡ true) → circuit_value u (if faulty then always else (if greatest then leaf v else never)) ≡ (u v || faulty)
validator_by u v true greatest within = sym (or-true (u v))
validator_by u v false true within = sym (or-false (u v))
validator_by u v false false within = absent (u v) within

unmet : (k n met : ℕ) → nat_le k n ≡ false → met ≤ n → false ≡ nat_le k met
unmet k n met h few = grind (arith, nat_tests)

set_by : (u : Nodes) (k n met : ℕ) (some good : Bool) (inputs : Inputs) → nat_le 1 k ≡ some → nat_le k n ≡ good → count_true u inputs ≡ met → met ≤ n →
    circuit_value u (if some && good then threshold_over (k - always_count inputs) (undecided inputs) else never) ≡ (some && nat_le k met)
set_by u k n met true true inputs is_some is_good is few =
    threshold_value u (k - always_count inputs) (undecided inputs)
    ∙ lowered k (always_count inputs) (count_true u (undecided inputs))
    ∙ ap (nat_le k) (sym (undecided_count u inputs) ∙ is)
set_by u k n met true false inputs is_some is_good is few = unmet k n met is_good few
set_by u k n met false good inputs is_some is_good is few = refl

met_with : (a b : Bool) (m n : ℕ) → a ≡ b → m ≡ n → (if a then 1 else 0) + m ≡ (if b then 1 else 0) + n
met_with a b m n e f = cc

mutual
  -- on a set of the greatest quorum's nodes the circuit has the truth of the quorum set on that set and the faulty nodes
  pub simplified_value : (greatest faulty u : Nodes) → u ⊆ greatest → (q : QuorumSet) → circuit_value u (simplified greatest faulty q) ≡ is_satisfied (u ∪ faulty) q
  simplified_value greatest faulty u within (quorum_set k entries) =
      set_by u k (count entries) (count_met (u ∪ faulty) entries) (nat_le 1 k) (nat_le k (count entries)) (simplified_entries greatest faulty entries) refl refl (entries_value greatest faulty u within entries) (count_met_le-count (u ∪ faulty) entries)

  entries_value : (greatest faulty u : Nodes) → u ⊆ greatest → (entries : Entries) → count_true u (simplified_entries greatest faulty entries) ≡ count_met (u ∪ faulty) entries
  entries_value greatest faulty u within none = refl
  entries_value greatest faulty u within (node v rest) =
      met_with _ (u v || faulty v) _ _ (validator_by u v (faulty v) (greatest v) (within v)) (entries_value greatest faulty u within rest)
  entries_value greatest faulty u within (inner q rest) =
      met_with _ (is_satisfied (u ∪ faulty) q) _ _ (simplified_value greatest faulty u within q) (entries_value greatest faulty u within rest)

-- the law, by choices
pub value_law : (u greatest faulty : Nodes) (q : QuorumSet) (c : Circuit) (b : Bool) → b ≡ circuit_value u c → c ≡ simplified greatest faulty q → u ⊆ greatest → IsTrue b ↔ HasChoiceWithin q (u ∪ faulty)
value_law u greatest faulty q c b is circuit within =
    let same : b ≡ is_satisfied (u ∪ faulty) q = is ∙ ap (circuit_value u) circuit ∙ simplified_value greatest faulty u within q in
    (λ h. satisfied_choice (u ∪ faulty) q (sym same ∙ h), λ h. same ∙ choice_satisfied (u ∪ faulty) h.1 h.2)
