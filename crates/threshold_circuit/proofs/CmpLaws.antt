-- What `<` says of circuits: the trees that they show are compared.
use Rattle.std.proofs.Common.{◌≡◌, List, refl, ap, ◌∙◌}
use mathlib.Core.Former.{Count}
use Rattle.std.specs.declared.cmp.Ordering.{Ordering}
use Rattle.std.specs.Ordering.{nat_cmp, ordering_then}
use Rattle.std.specs.Cmp.Lexicographic.{slice_cmp}
use Rattle.threshold_circuit.specs.Ordered.{compared, compared_inputs}
use Rattle.threshold_circuit.specs.declared.Circuit.{Circuit, Always, Never, Node, AtLeast', Row_of-Circuit, end_of-Circuit, more_of-Circuit}
use Rattle.threshold_circuit.specs.declared.Circuit.TheBlock.{items-the_row-Circuit, shown-the_row-Circuit-0, items_shown-the_row-Circuit-0}
use Rattle.threshold_circuit.specs.Views.{circuit_view, row_view}
use Rattle.threshold_circuit.specs.contracts.CircuitOrd.TheImpl as own
use Rattle.threshold_circuit.specs.contracts.CircuitOrd.TheImpl.Laws as laws

both : (a b c d : Ordering) → a ≡ b → c ≡ d → ordering_then a c ≡ ordering_then b d
both a b c d e f = ap (λ x. ordering_then x c) e ∙ ap (λ x. ordering_then b x) f

mutual
  unfolding Rattle.threshold_circuit.specs.declared.Circuit.TheViews.out-Circuit denote.Hole.Carrier.out

  unfolded_is : (a b : Circuit) → laws.unfolded a b ≡ compared (circuit_view a) (circuit_view b)
  unfolded_is Always Always = refl
  unfolded_is Always Never = refl
  unfolded_is Always (Node w) = refl
  unfolded_is Always (AtLeast' j t q) = refl
  unfolded_is Never Always = refl
  unfolded_is Never Never = refl
  unfolded_is Never (Node w) = refl
  unfolded_is Never (AtLeast' j t q) = refl
  unfolded_is (Node v) Always = refl
  unfolded_is (Node v) Never = refl
  unfolded_is (Node v) (Node w) = refl
  unfolded_is (Node v) (AtLeast' j t q) = refl
  unfolded_is (AtLeast' k s r) Always = refl
  unfolded_is (AtLeast' k s r) Never = refl
  unfolded_is (AtLeast' k s r) (Node w) = refl
  unfolded_is (AtLeast' k s r) (AtLeast' j t q) =
      ap (λ (xs : List Circuit). ordering_then (nat_cmp k j) (slice_cmp own.ghosts.cmp xs (shown-the_row-Circuit-0 t q).items)) (items_shown-the_row-Circuit-0 s r)
      ∙ ap (λ (ys : List Circuit). ordering_then (nat_cmp k j) (slice_cmp own.ghosts.cmp (items-the_row-Circuit _ r) ys)) (items_shown-the_row-Circuit-0 t q)
      ∙ ap (λ (x : Ordering). ordering_then (nat_cmp k j) x) (rows_are _ r _ q)

  rows_are : (m : Count) (r : Row_of-Circuit m) (n : Count) (q : Row_of-Circuit n) → slice_cmp own.ghosts.cmp (items-the_row-Circuit m r) (items-the_row-Circuit n q) ≡ compared_inputs (row_view r) (row_view q)
  rows_are m end_of-Circuit n end_of-Circuit = refl
  rows_are m end_of-Circuit n (more_of-Circuit d ds) = refl
  rows_are m (more_of-Circuit c cs) n end_of-Circuit = refl
  rows_are m (more_of-Circuit c cs) n (more_of-Circuit d ds) = both (own.ghosts.cmp c d) (compared (circuit_view c) (circuit_view d)) _ _ (laws.is c d ∙ unfolded_is c d) (rows_are _ cs _ ds)

pub cmp_is : (a b : Circuit) → own.ghosts.cmp a b ≡ compared (circuit_view a) (circuit_view b)
cmp_is a b = laws.is a b ∙ unfolded_is a b
