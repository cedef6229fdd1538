-- What a sort of circuits gives: the inputs that they show, in order.
use Rattle.std.proofs.Common.{◌≡◌, ℕ, zero, suc, ◌+◌, ◌<◌, ◌≤◌, Bool, true, false, if◌then◌else◌, List, [], ◌∷◌, ◌++◌, length, get_or, drop, slice_set, IsPermutation, refl, ap, ◌∙◌, sym, subst, arith}
use Rattle.std.specs.declared.cmp.Ordering.{Ordering}
use Rattle.std.specs.declared.cmp.Ordering.TheVariants.{Less, Equal, Greater}
use Rattle.std.specs.Ordering.{ordering_reverse, is_gt, is_lt}
use Rattle.std.specs.List.{swap}
use Rattle.std.specs.List.Sorted.{IsSorted}
use Rattle.std.proofs.lemmas.Cmp.{tied_itself}
use Rattle.std.proofs.lemmas.List.{drop_all}
use Rattle.std.proofs.lemmas.List.Sorted.{IsPermutation-keeps}
use Rattle.threshold_circuit.specs.Circuits as Circuits
use Rattle.threshold_circuit.specs.Circuits.{Inputs, at_least, end_of_gate, input}
use Rattle.threshold_circuit.specs.Gathering.{joined}
use Rattle.threshold_circuit.specs.declared.Circuit.{Circuit}
use Rattle.threshold_circuit.specs.Views.{circuit_view, inputs_view}
use Rattle.threshold_circuit.specs.Ordered.{compared, inserted, in_order, ordered, each_ordered}
use Rattle.threshold_circuit.specs.contracts.CircuitOrd.TheImpl as own
use Rattle.threshold_circuit.proofs.ViewLaws.{cut_circuits}
use Rattle.threshold_circuit.proofs.GatheredLaws.{joined_end, joined_joined, entries_push}
use Rattle.threshold_circuit.proofs.OrderLaws.{is_total, turned}
use Rattle.threshold_circuit.proofs.PermutedLaws.{put_at, inserted_both}
use Rattle.threshold_circuit.proofs.CmpLaws.{cmp_is}

-- ---- what is inserted can be taken out again

abbrev taken : Circuits.Circuit → Inputs → Inputs
taken c end_of_gate = end_of_gate
taken c (input d ds) = if is_gt (compared c d) then input d (taken c ds) else ds

taken_at : (c d : Circuits.Circuit) (ds : Inputs) (after : Bool) → is_gt (compared c d) ≡ after → taken c (input d ds) ≡ (if after then input d (taken c ds) else ds)
taken_at c d ds after is = ap (λ (b : Bool). if b then input d (taken c ds) else ds) is

not_above_itself : (c : Circuits.Circuit) → is_gt (compared c c) ≡ false
not_above_itself c = ap is_gt (tied_itself is_total c)

taken_by : (c d : Circuits.Circuit) (ds : Inputs) (after : Bool) → is_gt (compared c d) ≡ after → taken c (inserted c ds) ≡ ds → taken c (inserted c (input d ds)) ≡ input d ds
taken_by c d ds true is before = ap (taken c) (put_at c d ds true is) ∙ taken_at c d (inserted c ds) true is ∙ ap (input d) before
taken_by c d ds false is before = ap (taken c) (put_at c d ds false is) ∙ taken_at c c (input d ds) false (not_above_itself c)

taken_inserted : (c : Circuits.Circuit) (ds : Inputs) → taken c (inserted c ds) ≡ ds
taken_inserted c end_of_gate = taken_at c c end_of_gate false (not_above_itself c)
taken_inserted c (input d ds) = taken_by c d ds (is_gt (compared c d)) refl (taken_inserted c ds)

without : (c : Circuits.Circuit) (cs ds : Inputs) → inserted c cs ≡ inserted c ds → cs ≡ ds
without c cs ds same = sym (taken_inserted c cs) ∙ ap (taken c) same ∙ taken_inserted c ds

-- ---- exchanges

abbrev in_order_of : List Circuit → Inputs
in_order_of xs = in_order (inputs_view xs)

set_in_order : (xs : List Circuit) (i : ℕ) (d y : Circuit) → i < length xs → inserted (circuit_view (get_or xs i d)) (in_order_of (slice_set xs i y)) ≡ inserted (circuit_view y) (in_order_of xs)
set_in_order [] i d y low = absurd (omega (arith, low))
set_in_order (z ∷ zs) zero d y low = inserted_both (circuit_view z) (circuit_view y) (in_order_of zs)
set_in_order (z ∷ zs) (suc i) d y low =
    inserted_both (circuit_view (get_or zs i d)) (circuit_view z) (in_order_of (slice_set zs i y))
    ∙ ap (inserted (circuit_view z)) (set_in_order zs i d y (omega (arith, low)))
    ∙ inserted_both (circuit_view z) (circuit_view y) (in_order_of zs)

read_after : (xs : List Circuit) (i j : ℕ) (d v : Circuit) → v ≡ get_or xs j d → get_or (slice_set xs i v) j d ≡ get_or xs j d
read_after [] i j d v is = refl
read_after (x ∷ xs) zero zero d v is = is
read_after (x ∷ xs) zero (suc j) d v is = refl
read_after (x ∷ xs) (suc i) zero d v is = refl
read_after (x ∷ xs) (suc i) (suc j) d v is = read_after xs i j d v is

set_length : (xs : List Circuit) (i : ℕ) (v : Circuit) → length (slice_set xs i v) ≡ length xs
set_length [] i v = refl
set_length (x ∷ xs) zero v = refl
set_length (x ∷ xs) (suc i) v = omega (arith, set_length xs i v)

swapped_in_order : (xs : List Circuit) (i j : ℕ) → i < length xs → j < length xs → in_order_of (swap xs i j) ≡ in_order_of xs
swapped_in_order [] i j low high = refl
swapped_in_order (d ∷ ys) i j low high =
    let xs : List Circuit = d ∷ ys in
    let a = get_or xs i d in
    let b = get_or xs j d in
    let once : List Circuit = slice_set xs i b in
    let read = read_after xs i j d b refl in
    let second = set_in_order once j d a (omega (arith, set_length xs i b, high)) in
    without (circuit_view b) (in_order_of (slice_set once j a)) (in_order_of xs)
    (ap (λ (x : Circuit). inserted (circuit_view x) (in_order_of (slice_set once j a))) (sym read) ∙ second ∙ set_in_order xs i d b low)

pub permuted_in_order : (xs ys : List Circuit) → IsPermutation xs ys → in_order (inputs_view ys) ≡ in_order (inputs_view xs)
permuted_in_order xs ys moved =
    IsPermutation-keeps xs (λ (zs : List Circuit). in_order (inputs_view zs) ≡ in_order (inputs_view xs)) refl
    (λ l i j low high was. swapped_in_order l i j low high ∙ was) ys moved

-- ---- sorted inputs stay as they are

turned_test : (o : Ordering) → is_gt (ordering_reverse o) ≡ is_lt o
turned_test Less = refl
turned_test Equal = refl
turned_test Greater = refl

not_above : (x y : Circuit) → is_lt (own.ghosts.cmp y x) ≡ false → is_gt (compared (circuit_view x) (circuit_view y)) ≡ false
not_above x y h =
    ap is_gt (turned (circuit_view x) (circuit_view y))
    ∙ turned_test (compared (circuit_view y) (circuit_view x))
    ∙ sym (ap is_lt (cmp_is y x))
    ∙ h

tail_sorted : (x : Circuit) (xs : List Circuit) → IsSorted own.ghosts.cmp (x ∷ xs) → IsSorted own.ghosts.cmp xs
tail_sorted x xs up = λ k d low high.
    let next : suc k + 1 ≡ suc (k + 1) = omega arith in
    subst (λ (n : ℕ). is_lt (own.ghosts.cmp (get_or (x ∷ xs) n d) (get_or xs k d)) ≡ false) next (up (suc k) d (omega arith) (omega (arith, high)))

pub sorted_in_order : (xs : List Circuit) → IsSorted own.ghosts.cmp xs → in_order (inputs_view xs) ≡ inputs_view xs
sorted_in_order [] up = refl
sorted_in_order (x ∷ []) up = refl
sorted_in_order (x ∷ y ∷ ys) up =
    ap (inserted (circuit_view x)) (sorted_in_order (y ∷ ys) (tail_sorted x (y ∷ ys) up))
    ∙ put_at (circuit_view x) (circuit_view y) (inputs_view ys) false (not_above x y (up 0 x (omega arith) (omega arith)))

-- ---- the loop

pub each_more : (i : ℕ) (items copies : List Circuit) (x y : Circuit) (copies' : List Circuit) → i < length items → x ≡ get_or items i x → circuit_view y ≡ ordered (circuit_view x) → copies' ≡ copies ++ y ∷ [] →
    joined (inputs_view copies) (each_ordered (inputs_view (drop i items))) ≡ each_ordered (inputs_view items) → joined (inputs_view copies') (each_ordered (inputs_view (drop (i + 1) items))) ≡ each_ordered (inputs_view items)
each_more i items copies x y copies' low item same at was =
    let rest = each_ordered (inputs_view (drop (i + 1) items)) in
    ap (λ (cs : List Circuit). joined (inputs_view cs) rest) at
    ∙ ap (λ (es : Inputs). joined es rest) (entries_push copies y)
    ∙ joined_joined (inputs_view copies) (input (circuit_view y) end_of_gate) rest
    ∙ ap (λ (c : Circuits.Circuit). joined (inputs_view copies) (input c rest)) same
    ∙ ap (λ (cs : List Circuit). joined (inputs_view copies) (each_ordered (inputs_view cs))) (sym (cut_circuits i items x item low))
    ∙ was

pub sorted_all : (k i : ℕ) (items copies sorted : List Circuit) (self : Circuit) → circuit_view self ≡ at_least k (inputs_view items) → length items ≤ i → joined (inputs_view copies) (each_ordered (inputs_view (drop i items))) ≡ each_ordered (inputs_view items) →
    IsPermutation copies sorted → IsSorted own.ghosts.cmp sorted → at_least k (inputs_view sorted) ≡ ordered (circuit_view self)
sorted_all k i items copies sorted self is all was moved up =
    let none : drop i items ≡ [] = drop_all i items all in
    let whole : inputs_view copies ≡ each_ordered (inputs_view items) = sym (joined_end (inputs_view copies)) ∙ ap (λ (cs : List Circuit). joined (inputs_view copies) (each_ordered (inputs_view cs))) (sym none) ∙ was in
    ap (at_least k) (sym (sorted_in_order sorted up) ∙ permuted_in_order copies sorted moved ∙ ap in_order whole) ∙ sym (ap ordered is)
