-- A circuit in order has the value, the nodes, the thresholds and the sizes of the circuit.
use Rattle.std.proofs.Common.{◌≡◌, ℕ, ◌+◌, ◌≤◌, Bool, true, false, nat_le, if◌then◌else◌, refl, ap, ◌∙◌, sym, subst, arith}
use Rattle.std.specs.Ordering.{is_gt}
use Rattle.fbas_model.specs.Nodes.{Nodes}
use Rattle.threshold_circuit.specs.Circuits.{Circuit, Inputs, always, never, leaf, at_least, end_of_gate, input, input_count, all_inputs, all_inputs_of, NodesBelow, AllNodesBelow, HasThresholds, HaveThresholds, IsOpen, AreOpen, IsReduced}
use Rattle.threshold_circuit.specs.Gates.{gate_variables, gate_variables_of, own_variables}
use Rattle.threshold_circuit.specs.Value.{circuit_value, count_true}
use Rattle.threshold_circuit.specs.Ordered.{compared, inserted, in_order, ordered, each_ordered}

-- ---- what is summed over the inputs does not depend on their order

abbrev pub summed : (Circuit → ℕ) → Inputs → ℕ
summed f end_of_gate = 0
summed f (input c cs) = f c + summed f cs

by_place : (f : Circuit → ℕ) (c d : Circuit) (ds : Inputs) (after : Bool) → summed f (inserted c ds) ≡ f c + summed f ds → summed f (if after then input d (inserted c ds) else input c (input d ds)) ≡ f c + (f d + summed f ds)
by_place f c d ds true h = omega (arith, h)
by_place f c d ds false h = refl

inserted_sum : (f : Circuit → ℕ) (c : Circuit) (ds : Inputs) → summed f (inserted c ds) ≡ f c + summed f ds
inserted_sum f c end_of_gate = refl
inserted_sum f c (input d ds) = by_place f c d ds (is_gt (compared c d)) (inserted_sum f c ds)

pub in_order_sum : (f : Circuit → ℕ) (cs : Inputs) → summed f (in_order cs) ≡ summed f cs
in_order_sum f end_of_gate = refl
in_order_sum f (input c cs) = inserted_sum f c (in_order cs) ∙ ap (λ (n : ℕ). f c + n) (in_order_sum f cs)

-- ---- what each input has, each has in any order

abbrev pub EachInput : (Circuit → Type 0) → Inputs → Type 0
EachInput P end_of_gate = Unit {0}
EachInput P (input c cs) = P c × EachInput P cs

each_by_place : (P : Circuit → Type 0) (c d : Circuit) (ds : Inputs) (after : Bool) → EachInput P (inserted c ds) → P c → P d → EachInput P ds → EachInput P (if after then input d (inserted c ds) else input c (input d ds))
each_by_place P c d ds true h p q r = (q, h)
each_by_place P c d ds false h p q r = (p, (q, r))

each_inserted : (P : Circuit → Type 0) (c : Circuit) (ds : Inputs) → P c → EachInput P ds → EachInput P (inserted c ds)
each_inserted P c end_of_gate p r = (p, r)
each_inserted P c (input d ds) p r = each_by_place P c d ds (is_gt (compared c d)) (each_inserted P c ds p r.1) p r.0 r.1

pub each_in_order : (P : Circuit → Type 0) (cs : Inputs) → EachInput P cs → EachInput P (in_order cs)
each_in_order P end_of_gate h = h
each_in_order P (input c cs) h = each_inserted P c (in_order cs) h.0 (each_in_order P cs h.1)

-- ---- the words of circuits are such sums and such facts

abbrev one_if : Nodes → Circuit → ℕ
one_if u c = if circuit_value u c then 1 else 0

true_sum : (u : Nodes) (cs : Inputs) → count_true u cs ≡ summed (one_if u) cs
true_sum u end_of_gate = refl
true_sum u (input c cs) = ap (λ (n : ℕ). one_if u c + n) (true_sum u cs)

count_sum : (cs : Inputs) → input_count cs ≡ summed (λ c. 1) cs
count_sum end_of_gate = refl
count_sum (input c cs) = ap (λ (n : ℕ). 1 + n) (count_sum cs)

all_sum : (cs : Inputs) → all_inputs_of cs ≡ summed (λ c. 1 + all_inputs c) cs
all_sum end_of_gate = refl
all_sum (input c cs) = ap (λ (n : ℕ). 1 + all_inputs c + n) (all_sum cs)

gates_sum : (cs : Inputs) → gate_variables_of cs ≡ summed gate_variables cs
gates_sum end_of_gate = refl
gates_sum (input c cs) = ap (λ (n : ℕ). gate_variables c + n) (gates_sum cs)

true_in_order : (u : Nodes) (cs : Inputs) → count_true u (in_order cs) ≡ count_true u cs
true_in_order u cs = true_sum u (in_order cs) ∙ in_order_sum (one_if u) cs ∙ sym (true_sum u cs)

pub count_in_order : (cs : Inputs) → input_count (in_order cs) ≡ input_count cs
count_in_order cs = count_sum (in_order cs) ∙ in_order_sum (λ c. 1) cs ∙ sym (count_sum cs)

all_in_order : (cs : Inputs) → all_inputs_of (in_order cs) ≡ all_inputs_of cs
all_in_order cs = all_sum (in_order cs) ∙ in_order_sum (λ c. 1 + all_inputs c) cs ∙ sym (all_sum cs)

gates_in_order : (cs : Inputs) → gate_variables_of (in_order cs) ≡ gate_variables_of cs
gates_in_order cs = gates_sum (in_order cs) ∙ in_order_sum gate_variables cs ∙ sym (gates_sum cs)

below_each : (n : ℕ) (cs : Inputs) → AllNodesBelow n cs → EachInput (NodesBelow n) cs
below_each n end_of_gate h = h
below_each n (input c cs) h = (h.0, below_each n cs h.1)

each_below : (n : ℕ) (cs : Inputs) → EachInput (NodesBelow n) cs → AllNodesBelow n cs
each_below n end_of_gate h = h
each_below n (input c cs) h = (h.0, each_below n cs h.1)

thresholds_each : (cs : Inputs) → HaveThresholds cs → EachInput HasThresholds cs
thresholds_each end_of_gate h = h
thresholds_each (input c cs) h = (h.0, thresholds_each cs h.1)

each_thresholds : (cs : Inputs) → EachInput HasThresholds cs → HaveThresholds cs
each_thresholds end_of_gate h = h
each_thresholds (input c cs) h = (h.0, each_thresholds cs h.1)

open_each : (nodes : Nodes) (cs : Inputs) → AreOpen nodes cs → EachInput (IsOpen nodes) cs
open_each nodes end_of_gate h = h
open_each nodes (input c cs) h = (h.0, open_each nodes cs h.1)

each_open : (nodes : Nodes) (cs : Inputs) → EachInput (IsOpen nodes) cs → AreOpen nodes cs
each_open nodes end_of_gate h = h
each_open nodes (input c cs) h = (h.0, each_open nodes cs h.1)

-- ---- the laws

with_one : (a b : Bool) (m n : ℕ) → a ≡ b → m ≡ n → (if a then 1 else 0) + m ≡ (if b then 1 else 0) + n
with_one a b m n e f = cc

mutual
  -- where any nodes are present the value is the same
  pub ordered_value : (u : Nodes) (c : Circuit) → circuit_value u (ordered c) ≡ circuit_value u c
  ordered_value u always = refl
  ordered_value u never = refl
  ordered_value u (leaf v) = refl
  ordered_value u (at_least k cs) = ap (nat_le k) (true_in_order u (each_ordered cs) ∙ each_value u cs)

  each_value : (u : Nodes) (cs : Inputs) → count_true u (each_ordered cs) ≡ count_true u cs
  each_value u end_of_gate = refl
  each_value u (input c cs) = with_one _ _ _ _ (ordered_value u c) (each_value u cs)

each_count : (cs : Inputs) → input_count (each_ordered cs) ≡ input_count cs
each_count end_of_gate = refl
each_count (input c cs) = ap (λ (n : ℕ). 1 + n) (each_count cs)

pub ordered_count : (cs : Inputs) → input_count (in_order (each_ordered cs)) ≡ input_count cs
ordered_count cs = count_in_order (each_ordered cs) ∙ each_count cs

mutual
  pub ordered_inputs : (c : Circuit) → all_inputs (ordered c) ≡ all_inputs c
  ordered_inputs always = refl
  ordered_inputs never = refl
  ordered_inputs (leaf v) = refl
  ordered_inputs (at_least k cs) = all_in_order (each_ordered cs) ∙ each_inputs cs

  each_inputs : (cs : Inputs) → all_inputs_of (each_ordered cs) ≡ all_inputs_of cs
  each_inputs end_of_gate = refl
  each_inputs (input c cs) = omega (arith, ordered_inputs c, each_inputs cs)

mutual
  pub ordered_gates : (c : Circuit) → gate_variables (ordered c) ≡ gate_variables c
  ordered_gates always = refl
  ordered_gates never = refl
  ordered_gates (leaf v) = refl
  ordered_gates (at_least k cs) =
      let own = ap (own_variables k) (ordered_count cs) in
      omega (arith, gates_in_order (each_ordered cs), each_gates cs, own)

  each_gates : (cs : Inputs) → gate_variables_of (each_ordered cs) ≡ gate_variables_of cs
  each_gates end_of_gate = refl
  each_gates (input c cs) = omega (arith, ordered_gates c, each_gates cs)

mutual
  pub ordered_below : (n : ℕ) (c : Circuit) → NodesBelow n c → NodesBelow n (ordered c)
  ordered_below n always h = h
  ordered_below n never h = h
  ordered_below n (leaf v) h = h
  ordered_below n (at_least k cs) h = each_below n (in_order (each_ordered cs)) (each_in_order (NodesBelow n) (each_ordered cs) (each_below_ordered n cs h))

  each_below_ordered : (n : ℕ) (cs : Inputs) → AllNodesBelow n cs → EachInput (NodesBelow n) (each_ordered cs)
  each_below_ordered n end_of_gate h = h
  each_below_ordered n (input c cs) h = (ordered_below n c h.0, each_below_ordered n cs h.1)

mutual
  pub ordered_thresholds : (c : Circuit) → HasThresholds c → HasThresholds (ordered c)
  ordered_thresholds always h = h
  ordered_thresholds never h = h
  ordered_thresholds (leaf v) h = h
  ordered_thresholds (at_least k cs) h =
      (h.0, subst (λ (n : ℕ). k ≤ n) (sym (ordered_count cs)) h.1, each_thresholds (in_order (each_ordered cs)) (each_in_order HasThresholds (each_ordered cs) (each_thresholds_ordered cs h.2)))

  each_thresholds_ordered : (cs : Inputs) → HaveThresholds cs → EachInput HasThresholds (each_ordered cs)
  each_thresholds_ordered end_of_gate h = h
  each_thresholds_ordered (input c cs) h = (ordered_thresholds c h.0, each_thresholds_ordered cs h.1)

mutual
  pub ordered_open : (nodes : Nodes) (c : Circuit) → IsOpen nodes c → IsOpen nodes (ordered c)
  ordered_open nodes always h = h
  ordered_open nodes never h = h
  ordered_open nodes (leaf v) h = h
  ordered_open nodes (at_least k cs) h =
      (h.0, subst (λ (n : ℕ). k ≤ n) (sym (ordered_count cs)) h.1, each_open nodes (in_order (each_ordered cs)) (each_in_order (IsOpen nodes) (each_ordered cs) (each_open_ordered nodes cs h.2)))

  each_open_ordered : (nodes : Nodes) (cs : Inputs) → AreOpen nodes cs → EachInput (IsOpen nodes) (each_ordered cs)
  each_open_ordered nodes end_of_gate h = h
  each_open_ordered nodes (input c cs) h = (ordered_open nodes c h.0, each_open_ordered nodes cs h.1)

pub ordered_reduced : (nodes : Nodes) (c : Circuit) → IsReduced nodes c → IsReduced nodes (ordered c)
ordered_reduced nodes always h = h
ordered_reduced nodes never h = h
ordered_reduced nodes (leaf v) h = h
ordered_reduced nodes (at_least k cs) h = ordered_open nodes (at_least k cs) h
