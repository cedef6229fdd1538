-- The order of circuits is total: one of two different circuits stands before the other. So inputs in order do not depend on
-- the order in which they were.
use Rattle.std.proofs.Common.{◌≡◌, ℕ, ◌<◌, refl, ap, ◌∙◌, sym}
use Rattle.std.specs.declared.cmp.Ordering.{Ordering}
use Rattle.std.specs.declared.cmp.Ordering.TheVariants.{Less, Equal, Greater}
use Rattle.std.specs.Ordering.{nat_cmp, ordering_then, ordering_reverse, is_lt, is_eq, MatchOrdering}
use Rattle.std.specs.Cmp.{IsTotalOrder, nat_cmp_total}
use Rattle.std.proofs.lemmas.Cmp.{ranked}
use Rattle.std.proofs.lemmas.Bool.{false≢true}
use Rattle.threshold_circuit.specs.Circuits.{Circuit, Inputs, always, never, leaf, at_least, end_of_gate, input}
use Rattle.threshold_circuit.specs.Ordered.{compared, compared_inputs}

less_not_equal : Less ≡ Equal → ⊥
less_not_equal h = false≢true (ap is_eq h)

greater_not_equal : Greater ≡ Equal → ⊥
greater_not_equal h = false≢true (ap is_eq h)

greater_not_less : Greater ≡ Less → ⊥
greater_not_less h = false≢true (ap is_lt h)

equal_not_less : Equal ≡ Less → ⊥
equal_not_less h = false≢true (ap is_lt h)

-- ---- numbers

nat_equal_by : (x y : ℕ) (r : Ordering) → MatchOrdering r (x < y) (x ≡ y) (y < x) → r ≡ Equal → x ≡ y
nat_equal_by x y Less m h = absurd (less_not_equal h)
nat_equal_by x y Equal m h = m
nat_equal_by x y Greater m h = absurd (greater_not_equal h)

nat_equal : (x y : ℕ) → nat_cmp x y ≡ Equal → x ≡ y
nat_equal x y h = nat_equal_by x y (nat_cmp x y) (ranked x y (nat_cmp x y) refl) h

-- ---- one comparison, and then another

then_equal : (a b : Ordering) → ordering_then a b ≡ Equal → (a ≡ Equal) × (b ≡ Equal)
then_equal Less b h = absurd (less_not_equal h)
then_equal Equal b h = (refl, h)
then_equal Greater b h = absurd (greater_not_equal h)

reversed_then_by : (a b d : Ordering) → b ≡ ordering_reverse d → ordering_then (ordering_reverse a) b ≡ ordering_reverse (ordering_then a d)
reversed_then_by Less b d h = refl
reversed_then_by Equal b d h = h
reversed_then_by Greater b d h = refl

reversed_then : (a b c d : Ordering) → a ≡ ordering_reverse c → b ≡ ordering_reverse d → ordering_then a b ≡ ordering_reverse (ordering_then c d)
reversed_then a b c d g h = ap (λ (x : Ordering). ordering_then x b) g ∙ reversed_then_by c b d h

less_then : (a b c d e f : Ordering) → (a ≡ Less → b ≡ Less → c ≡ Less) → (a ≡ Equal → c ≡ b) → (b ≡ Equal → c ≡ a) → (d ≡ Less → e ≡ Less → f ≡ Less) → ordering_then a d ≡ Less → ordering_then b e ≡ Less → ordering_then c f ≡ Less
less_then Less Less c d e f t l r u g h = ap (λ (x : Ordering). ordering_then x f) (t refl refl)
less_then Less Equal c d e f t l r u g h = ap (λ (x : Ordering). ordering_then x f) (r refl)
less_then Less Greater c d e f t l r u g h = absurd (greater_not_less h)
less_then Equal Less c d e f t l r u g h = ap (λ (x : Ordering). ordering_then x f) (l refl)
less_then Equal Equal c d e f t l r u g h = ap (λ (x : Ordering). ordering_then x f) (l refl) ∙ u g h
less_then Equal Greater c d e f t l r u g h = absurd (greater_not_less h)
less_then Greater b c d e f t l r u g h = absurd (greater_not_less g)

-- ---- circuits

mutual
  pub equal_is : (c d : Circuit) → compared c d ≡ Equal → c ≡ d
  equal_is always always h = refl
  equal_is always never h = absurd (less_not_equal h)
  equal_is always (leaf w) h = absurd (less_not_equal h)
  equal_is always (at_least j ds) h = absurd (less_not_equal h)
  equal_is never always h = absurd (greater_not_equal h)
  equal_is never never h = refl
  equal_is never (leaf w) h = absurd (less_not_equal h)
  equal_is never (at_least j ds) h = absurd (less_not_equal h)
  equal_is (leaf v) always h = absurd (greater_not_equal h)
  equal_is (leaf v) never h = absurd (greater_not_equal h)
  equal_is (leaf v) (leaf w) h = ap leaf (nat_equal v w h)
  equal_is (leaf v) (at_least j ds) h = absurd (less_not_equal h)
  equal_is (at_least k cs) always h = absurd (greater_not_equal h)
  equal_is (at_least k cs) never h = absurd (greater_not_equal h)
  equal_is (at_least k cs) (leaf w) h = absurd (greater_not_equal h)
  equal_is (at_least k cs) (at_least j ds) h =
      let both = then_equal (nat_cmp k j) (compared_inputs cs ds) h in
      ap (λ (n : ℕ). at_least n cs) (nat_equal k j both.0) ∙ ap (at_least j) (equal_inputs_are cs ds both.1)

  equal_inputs_are : (cs ds : Inputs) → compared_inputs cs ds ≡ Equal → cs ≡ ds
  equal_inputs_are end_of_gate end_of_gate h = refl
  equal_inputs_are end_of_gate (input d ds) h = absurd (less_not_equal h)
  equal_inputs_are (input c cs) end_of_gate h = absurd (greater_not_equal h)
  equal_inputs_are (input c cs) (input d ds) h =
      let both = then_equal (compared c d) (compared_inputs cs ds) h in
      ap (λ (e : Circuit). input e cs) (equal_is c d both.0) ∙ ap (input d) (equal_inputs_are cs ds both.1)

mutual
  pub turned : (c d : Circuit) → compared c d ≡ ordering_reverse (compared d c)
  turned always always = refl
  turned always never = refl
  turned always (leaf w) = refl
  turned always (at_least j ds) = refl
  turned never always = refl
  turned never never = refl
  turned never (leaf w) = refl
  turned never (at_least j ds) = refl
  turned (leaf v) always = refl
  turned (leaf v) never = refl
  turned (leaf v) (leaf w) = nat_cmp_total.antisymm v w
  turned (leaf v) (at_least j ds) = refl
  turned (at_least k cs) always = refl
  turned (at_least k cs) never = refl
  turned (at_least k cs) (leaf w) = refl
  turned (at_least k cs) (at_least j ds) = reversed_then _ _ (nat_cmp j k) (compared_inputs ds cs) (nat_cmp_total.antisymm k j) (inputs_turned cs ds)

  inputs_turned : (cs ds : Inputs) → compared_inputs cs ds ≡ ordering_reverse (compared_inputs ds cs)
  inputs_turned end_of_gate end_of_gate = refl
  inputs_turned end_of_gate (input d ds) = refl
  inputs_turned (input c cs) end_of_gate = refl
  inputs_turned (input c cs) (input d ds) = reversed_then _ _ (compared d c) (compared_inputs ds cs) (turned c d) (inputs_turned cs ds)

mutual
  pub less_trans : (c d e : Circuit) → compared c d ≡ Less → compared d e ≡ Less → compared c e ≡ Less
  less_trans always always always g h = absurd (equal_not_less g)
  less_trans always always never g h = absurd (equal_not_less g)
  less_trans always always (leaf x) g h = absurd (equal_not_less g)
  less_trans always always (at_least i es) g h = absurd (equal_not_less g)
  less_trans always never always g h = absurd (greater_not_less h)
  less_trans always never never g h = absurd (equal_not_less h)
  less_trans always never (leaf x) g h = refl
  less_trans always never (at_least i es) g h = refl
  less_trans always (leaf w) always g h = absurd (greater_not_less h)
  less_trans always (leaf w) never g h = absurd (greater_not_less h)
  less_trans always (leaf w) (leaf x) g h = refl
  less_trans always (leaf w) (at_least i es) g h = refl
  less_trans always (at_least j ds) always g h = absurd (greater_not_less h)
  less_trans always (at_least j ds) never g h = absurd (greater_not_less h)
  less_trans always (at_least j ds) (leaf x) g h = absurd (greater_not_less h)
  less_trans always (at_least j ds) (at_least i es) g h = refl
  less_trans never always always g h = absurd (greater_not_less g)
  less_trans never always never g h = absurd (greater_not_less g)
  less_trans never always (leaf x) g h = absurd (greater_not_less g)
  less_trans never always (at_least i es) g h = absurd (greater_not_less g)
  less_trans never never always g h = absurd (equal_not_less g)
  less_trans never never never g h = absurd (equal_not_less g)
  less_trans never never (leaf x) g h = absurd (equal_not_less g)
  less_trans never never (at_least i es) g h = absurd (equal_not_less g)
  less_trans never (leaf w) always g h = absurd (greater_not_less h)
  less_trans never (leaf w) never g h = absurd (greater_not_less h)
  less_trans never (leaf w) (leaf x) g h = refl
  less_trans never (leaf w) (at_least i es) g h = refl
  less_trans never (at_least j ds) always g h = absurd (greater_not_less h)
  less_trans never (at_least j ds) never g h = absurd (greater_not_less h)
  less_trans never (at_least j ds) (leaf x) g h = absurd (greater_not_less h)
  less_trans never (at_least j ds) (at_least i es) g h = refl
  less_trans (leaf v) always always g h = absurd (greater_not_less g)
  less_trans (leaf v) always never g h = absurd (greater_not_less g)
  less_trans (leaf v) always (leaf x) g h = absurd (greater_not_less g)
  less_trans (leaf v) always (at_least i es) g h = absurd (greater_not_less g)
  less_trans (leaf v) never always g h = absurd (greater_not_less g)
  less_trans (leaf v) never never g h = absurd (greater_not_less g)
  less_trans (leaf v) never (leaf x) g h = absurd (greater_not_less g)
  less_trans (leaf v) never (at_least i es) g h = absurd (greater_not_less g)
  less_trans (leaf v) (leaf w) always g h = absurd (greater_not_less h)
  less_trans (leaf v) (leaf w) never g h = absurd (greater_not_less h)
  less_trans (leaf v) (leaf w) (leaf x) g h = nat_cmp_total.trans v w x g h
  less_trans (leaf v) (leaf w) (at_least i es) g h = refl
  less_trans (leaf v) (at_least j ds) always g h = absurd (greater_not_less h)
  less_trans (leaf v) (at_least j ds) never g h = absurd (greater_not_less h)
  less_trans (leaf v) (at_least j ds) (leaf x) g h = absurd (greater_not_less h)
  less_trans (leaf v) (at_least j ds) (at_least i es) g h = refl
  less_trans (at_least k cs) always always g h = absurd (greater_not_less g)
  less_trans (at_least k cs) always never g h = absurd (greater_not_less g)
  less_trans (at_least k cs) always (leaf x) g h = absurd (greater_not_less g)
  less_trans (at_least k cs) always (at_least i es) g h = absurd (greater_not_less g)
  less_trans (at_least k cs) never always g h = absurd (greater_not_less g)
  less_trans (at_least k cs) never never g h = absurd (greater_not_less g)
  less_trans (at_least k cs) never (leaf x) g h = absurd (greater_not_less g)
  less_trans (at_least k cs) never (at_least i es) g h = absurd (greater_not_less g)
  less_trans (at_least k cs) (leaf w) always g h = absurd (greater_not_less g)
  less_trans (at_least k cs) (leaf w) never g h = absurd (greater_not_less g)
  less_trans (at_least k cs) (leaf w) (leaf x) g h = absurd (greater_not_less g)
  less_trans (at_least k cs) (leaf w) (at_least i es) g h = absurd (greater_not_less g)
  less_trans (at_least k cs) (at_least j ds) always g h = absurd (greater_not_less h)
  less_trans (at_least k cs) (at_least j ds) never g h = absurd (greater_not_less h)
  less_trans (at_least k cs) (at_least j ds) (leaf x) g h = absurd (greater_not_less h)
  less_trans (at_least k cs) (at_least j ds) (at_least i es) g h =
      less_then (nat_cmp k j) (nat_cmp j i) (nat_cmp k i) (compared_inputs cs ds) (compared_inputs ds es) (compared_inputs cs es)
      (nat_cmp_total.trans k j i) (λ same. ap (λ (n : ℕ). nat_cmp n i) (nat_equal k j same)) (λ same. ap (nat_cmp k) (sym (nat_equal j i same)))
      (inputs_less_trans cs ds es) g h

  inputs_less_trans : (cs ds es : Inputs) → compared_inputs cs ds ≡ Less → compared_inputs ds es ≡ Less → compared_inputs cs es ≡ Less
  inputs_less_trans end_of_gate end_of_gate es g h = absurd (equal_not_less g)
  inputs_less_trans end_of_gate (input d ds) end_of_gate g h = absurd (greater_not_less h)
  inputs_less_trans end_of_gate (input d ds) (input e es) g h = refl
  inputs_less_trans (input c cs) end_of_gate es g h = absurd (greater_not_less g)
  inputs_less_trans (input c cs) (input d ds) end_of_gate g h = absurd (greater_not_less h)
  inputs_less_trans (input c cs) (input d ds) (input e es) g h =
      less_then (compared c d) (compared d e) (compared c e) (compared_inputs cs ds) (compared_inputs ds es) (compared_inputs cs es)
      (less_trans c d e) (λ same. ap (λ (x : Circuit). compared x e) (equal_is c d same)) (λ same. ap (compared c) (sym (equal_is d e same)))
      (inputs_less_trans cs ds es) g h

pub is_total : IsTotalOrder compared
is_total = record {
  antisymm = turned;
  trans = less_trans;
  congr = λ x y z same. ap (λ (c : Circuit). compared c z) (equal_is x y same);
}
