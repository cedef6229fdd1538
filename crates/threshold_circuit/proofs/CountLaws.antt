-- How many variables the gates have: the closed form, and that the number fits 64 bits.
use Rattle.std.proofs.Common.{◌≡◌, ℕ, zero, suc, ◌+◌, ◌-◌, ◌*◌, ◌/◌, ◌≤◌, ◌<◌, ◌==◌, Bool, true, false, List, length, refl, ap, subst, sym, get_or, drop, ◌∙◌, arith}
use Rattle.std.proofs.lemmas.Bool.{eqb-true}
use Rattle.std.proofs.lemmas.List.{drop_all}
use Rattle.fbas_model.specs.declared.TheConstants.{MOST_ENTRIES}
use Rattle.threshold_circuit.specs.Circuits.{Circuit, Inputs, always, never, leaf, at_least, end_of_gate, input, input_count, all_inputs, all_inputs_of, HasThresholds, HaveThresholds}
use Rattle.threshold_circuit.specs.Gates.{before_row, own_variables, gate_variables, gate_variables_of}
use Rattle.threshold_circuit.specs.declared.Circuit as Rust
use Rattle.threshold_circuit.specs.Views.{circuit_view, inputs_view}
use Rattle.threshold_circuit.proofs.GatheredLaws.{input_count_view}
use Rattle.threshold_circuit.proofs.ViewLaws.{cut_circuits}
use Rattle.threshold_circuit.proofs.Sizes.{counter_size}

rows_at_most : (k m : ℕ) → before_row k (suc m) ≤ m * k
rows_at_most k zero = omega arith
rows_at_most k (suc m) = omega (arith, rows_at_most k m)

times_at_most : (a b c d : ℕ) → a ≤ c → b ≤ d → a * b ≤ c * d
times_at_most a b c d g h = grind arith

own_by : (k n : ℕ) (every one : Bool) → (k == n) ≡ every → (k == 1) ≡ one → 1 ≤ k → k ≤ n → own_variables k n ≤ n * n
own_by k n true one e f some within = rw e (times_at_most 1 1 n n (omega (arith, some, within)) (omega (arith, some, within)))
own_by k n false true e f some within = rw (e, f) (times_at_most 1 1 n n (omega (arith, some, within)) (omega (arith, some, within)))
own_by k n false false e f some within = rw (e, f) (omega (arith, rows_at_most k n, times_at_most n k n n (omega arith) within))

own_at_most : (k n : ℕ) → 1 ≤ k → k ≤ n → own_variables k n ≤ n * n
own_at_most k n some within = own_by k n (k == n) (k == 1) refl refl some within

count_within : (inputs : Inputs) → input_count inputs ≤ all_inputs_of inputs
count_within end_of_gate = omega arith
count_within (input c others) = omega (arith, count_within others)

squares : (e w n s t : ℕ) → s ≤ e * e → t + n * n ≤ w * w → n ≤ w → s + t + (1 + n) * (1 + n) ≤ (1 + e + w) * (1 + e + w)
squares e w n s t g h i = omega (arith, g, h, i)

mutual
  size_at_most : (c : Circuit) → HasThresholds c → gate_variables c ≤ all_inputs c * all_inputs c
  size_at_most always w = omega arith
  size_at_most never w = omega arith
  size_at_most (leaf v) w = omega arith
  size_at_most (at_least k inputs) w = omega (arith, inputs_at_most inputs w.2, own_at_most k (input_count inputs) w.0 w.1)

  inputs_at_most : (inputs : Inputs) → HaveThresholds inputs → gate_variables_of inputs + input_count inputs * input_count inputs ≤ all_inputs_of inputs * all_inputs_of inputs
  inputs_at_most end_of_gate s = omega arith
  inputs_at_most (input c others) s = squares (all_inputs c) (all_inputs_of others) (input_count others) (gate_variables c) (gate_variables_of others) (size_at_most c s.0) (inputs_at_most others s.1) (count_within others)

-- the gates of a circuit have no more variables
abbrev pub most_gate_variables : ℕ
most_gate_variables = MOST_ENTRIES * MOST_ENTRIES

pub size_fits : (c : Circuit) → HasThresholds c → all_inputs c ≤ MOST_ENTRIES → gate_variables c ≤ most_gate_variables
size_fits c w few = omega (arith, size_at_most c w, times_at_most (all_inputs c) (all_inputs c) MOST_ENTRIES MOST_ENTRIES few few)

own_count_by : (k n : ℕ) (every one : Bool) → (k == n) ≡ every → (k == 1) ≡ one → (k ≡ n → ⊥) → (k ≡ 1 → ⊥) → k ≤ n → k * (k + 1) / 2 + (n - k) * k ≡ own_variables k n
own_count_by k n true one e f g h within = absurd (g (eqb-true k n e))
own_count_by k n false true e f g h within = absurd (h (eqb-true k 1 f))
own_count_by k n false false e f g h within = rw (e, f) (omega (arith, counter_size k n within))

pub own_count : (k n : ℕ) → (k ≡ n → ⊥) → (k ≡ 1 → ⊥) → k ≤ n → k * (k + 1) / 2 + (n - k) * k ≡ own_variables k n
own_count k n g h within = own_count_by k n (k == n) (k == 1) refl refl g h within

pub record GateFacts (k : ℕ) (self : Rust.Circuit) (items : List Rust.Circuit) : Type 0 where
  pub within : k ≤ length items
  pub few : length items ≤ MOST_ENTRIES
  pub size : gate_variables (circuit_view self) ≡ gate_variables_of (inputs_view items) + own_variables k (length items)
  pub fits : gate_variables (circuit_view self) ≤ most_gate_variables
  pub all : all_inputs_of (inputs_view items) ≤ MOST_ENTRIES
  pub thresholds : HaveThresholds (inputs_view items)

pub gate_facts : (k : ℕ) (self : Rust.Circuit) (items : List Rust.Circuit) → circuit_view self ≡ at_least k (inputs_view items) → HasThresholds (circuit_view self) → all_inputs (circuit_view self) ≤ MOST_ENTRIES → GateFacts k self items
gate_facts k self items is w few =
    let parts : HasThresholds (at_least k (inputs_view items)) = subst HasThresholds is w in
    let all : all_inputs_of (inputs_view items) ≤ MOST_ENTRIES = subst (λ (c : Circuit). all_inputs c ≤ MOST_ENTRIES) is few in
    let count = input_count_view items in
    record {
      within = omega (arith, parts.1, count);
      few = omega (arith, count, count_within (inputs_view items), all);
      size = ap gate_variables is ∙ ap (λ (n : ℕ). gate_variables_of (inputs_view items) + own_variables k n) count;
      fits = size_fits (circuit_view self) w few;
      all = all;
      thresholds = parts.2;
    }

pub one_counted : (count result i k : ℕ) (self x : Rust.Circuit) (items : List Rust.Circuit) → GateFacts k self items → x ≡ get_or items i x → i < length items → result ≡ gate_variables (circuit_view x) →
    count + gate_variables_of (inputs_view (drop i items)) ≡ gate_variables_of (inputs_view items) → count + result ≤ most_gate_variables
one_counted count result i k self x items facts is low e counted =
    let cut = cut_circuits i items x is low in
    let split : count + (gate_variables (circuit_view x) + gate_variables_of (inputs_view (drop (i + 1) items))) ≡ gate_variables_of (inputs_view items) = ap (λ (cs : List Rust.Circuit). count + gate_variables_of (inputs_view cs)) (sym cut) ∙ counted in
    omega (arith, split, e, facts.size, facts.fits)

pub all_counted : (count i : ℕ) (items : List Rust.Circuit) → length items ≤ i → count + gate_variables_of (inputs_view (drop i items)) ≡ gate_variables_of (inputs_view items) → count ≡ gate_variables_of (inputs_view items)
all_counted count i items all counted =
    let split : count + 0 ≡ gate_variables_of (inputs_view items) = ap (λ (cs : List Rust.Circuit). count + gate_variables_of (inputs_view cs)) (sym (drop_all i items all)) ∙ counted in
    omega (arith, split)
