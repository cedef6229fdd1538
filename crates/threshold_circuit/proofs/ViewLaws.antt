-- The view of a gate by its entries' list.
use Rattle.std.proofs.Common.{◌≡◌, ℕ, ◌+◌, ◌≤◌, ◌<◌, suc, nat_le, List, [], ◌∷◌, Vec, Global, length, get_or, drop, add-one, drop-cons, rules, refl, ap, subst, sym, ◌∙◌, arith}
use Rattle.std.proofs.lemmas.List.{drop_all}
use mathlib.Core.Former.{Count}
use Rattle.fbas_model.specs.Nodes.{Nodes}
use Rattle.threshold_circuit.specs.Circuits.{at_least, input, NodesBelow, AllNodesBelow}
use Rattle.threshold_circuit.specs.Value.{circuit_value, count_true}
use Rattle.threshold_circuit.specs.declared.Circuit.{Circuit, Row_of-Circuit, end_of-Circuit, more_of-Circuit}
use Rattle.threshold_circuit.specs.declared.Circuit.TheBlock.{items-the_row-Circuit}
use Rattle.threshold_circuit.specs.declared.Circuit.TheViews.{AtLeast, the_lemmas}
use Rattle.threshold_circuit.specs.Views.{circuit_view, row_view, inputs_view}

pub row_view_items : (n : Count) (row : Row_of-Circuit n) → row_view row ≡ inputs_view (items-the_row-Circuit n row)
row_view_items n end_of-Circuit = refl
row_view_items n (more_of-Circuit c rest) = ap (input (circuit_view c)) (row_view_items _ rest)

pub circuit_view_at_least : (k : ℕ) (v : Vec Circuit Global) → circuit_view (AtLeast k v) ≡ at_least k (inputs_view v.items)
circuit_view_at_least k v = search (rules, the_lemmas, row_view_items)

pub gate_view : (k : ℕ) (self : Circuit) (v : Vec Circuit Global) (items : List Circuit) → self ≡ AtLeast k v → items ≡ v.items → circuit_view self ≡ at_least k (inputs_view items)
gate_view k self v items is at = ap circuit_view is ∙ circuit_view_at_least k v ∙ ap (λ (cs : List Circuit). at_least k (inputs_view cs)) (sym at)

pub below_inputs : (n k : ℕ) (self : Circuit) (items : List Circuit) → circuit_view self ≡ at_least k (inputs_view items) → NodesBelow n (circuit_view self) → AllNodesBelow n (inputs_view items)
below_inputs n k self items is h = subst (NodesBelow n) is h

pub value_of_inputs : (u : Nodes) (k count i : ℕ) (self : Circuit) (items : List Circuit) → circuit_view self ≡ at_least k (inputs_view items) → count + count_true u (inputs_view (drop i items)) ≡ count_true u (inputs_view items) → length items ≤ i → nat_le k count ≡ circuit_value u (circuit_view self)
value_of_inputs u k count i self items is counted all =
    let none : drop i items ≡ [] = drop_all i items all in
    let whole : count ≡ count_true u (inputs_view items) = omega (arith, rw none at counted) in
    ap (nat_le k) whole ∙ sym (ap (circuit_value u) is)

pub cut_circuits : (i : ℕ) (xs : List Circuit) (x : Circuit) → x ≡ get_or xs i x → i < length xs → drop i xs ≡ x ∷ drop (i + 1) xs
cut_circuits i xs x is low = rw (add-one, drop-cons xs i x) (ap (λ (y : Circuit). y ∷ drop (suc i) xs) (sym is))
