-- What `==` says of circuits: the trees that they show are equal.
use Rattle.std.proofs.Common.{◌≡◌, ◌==◌, ◌&&◌, Bool, List, refl, ap, ◌∙◌}
use mathlib.Core.Former.{Count}
use Rattle.std.specs.Cmp.Lexicographic.{pointwise}
use Rattle.threshold_circuit.specs.Same.{same_circuit, same_inputs}
use Rattle.threshold_circuit.specs.declared.Circuit.{Circuit, Always, Never, Node, AtLeast', Row_of-Circuit, end_of-Circuit, more_of-Circuit}
use Rattle.threshold_circuit.specs.declared.Circuit.TheBlock.{items-the_row-Circuit, shown-the_row-Circuit-0, items_shown-the_row-Circuit-0}
use Rattle.threshold_circuit.specs.Views.{circuit_view, row_view}
use Rattle.threshold_circuit.specs.contracts.CircuitPartialEq.TheImpl as own
use Rattle.threshold_circuit.specs.contracts.CircuitPartialEq.TheImpl.Laws as laws

both : (a b c d : Bool) → a ≡ b → c ≡ d → (a && c) ≡ (b && d)
both a b c d e f = ap (λ x. x && c) e ∙ ap (λ x. b && x) f

mutual
  unfolding Rattle.threshold_circuit.specs.declared.Circuit.TheViews.out-Circuit denote.Hole.Carrier.out

  unfolded_is : (a b : Circuit) → laws.unfolded a b ≡ same_circuit (circuit_view a) (circuit_view b)
  unfolded_is Always Always = refl
  unfolded_is Always Never = refl
  unfolded_is Always (Node w) = refl
  unfolded_is Always (AtLeast' j t q) = refl
  unfolded_is Never Always = refl
  unfolded_is Never Never = refl
  unfolded_is Never (Node w) = refl
  unfolded_is Never (AtLeast' j t q) = refl
  unfolded_is (Node v) Always = refl
  unfolded_is (Node v) Never = refl
  unfolded_is (Node v) (Node w) = refl
  unfolded_is (Node v) (AtLeast' j t q) = refl
  unfolded_is (AtLeast' k s r) Always = refl
  unfolded_is (AtLeast' k s r) Never = refl
  unfolded_is (AtLeast' k s r) (Node w) = refl
  unfolded_is (AtLeast' k s r) (AtLeast' j t q) =
      ap (λ (xs : List Circuit). (k == j) && pointwise own.ghosts.eq xs (shown-the_row-Circuit-0 t q).items) (items_shown-the_row-Circuit-0 s r)
      ∙ ap (λ (ys : List Circuit). (k == j) && pointwise own.ghosts.eq (items-the_row-Circuit _ r) ys) (items_shown-the_row-Circuit-0 t q)
      ∙ ap (λ (x : Bool). (k == j) && x) (rows_are _ r _ q)

  rows_are : (m : Count) (r : Row_of-Circuit m) (n : Count) (q : Row_of-Circuit n) → pointwise own.ghosts.eq (items-the_row-Circuit m r) (items-the_row-Circuit n q) ≡ same_inputs (row_view r) (row_view q)
  rows_are m end_of-Circuit n end_of-Circuit = refl
  rows_are m end_of-Circuit n (more_of-Circuit d ds) = refl
  rows_are m (more_of-Circuit c cs) n end_of-Circuit = refl
  rows_are m (more_of-Circuit c cs) n (more_of-Circuit d ds) = both (own.ghosts.eq c d) (same_circuit (circuit_view c) (circuit_view d)) _ _ (laws.is c d ∙ unfolded_is c d) (rows_are _ cs _ ds)

pub eq_is : (a b : Circuit) → own.ghosts.eq a b ≡ same_circuit (circuit_view a) (circuit_view b)
eq_is a b = laws.is a b ∙ unfolded_is a b
