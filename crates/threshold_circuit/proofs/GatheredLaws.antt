-- Inputs that are joined and kept.
use Rattle.std.proofs.Common.{◌≡◌, ℕ, ◌+◌, ◌-◌, ◌≤◌, ◌<◌, ◌==◌, nat_lt, Bool, true, false, if◌then◌else◌, List, [], ◌∷◌, ◌++◌, Vec, Global, length, get_or, drop, refl, ap, sym, ◌∙◌, arith}
use Rattle.std.proofs.lemmas.Bool.Decides.{nat_tests}
use Rattle.threshold_circuit.specs.declared.Circuit.{Circuit, Always, Never, Node, AtLeast'}
use Rattle.threshold_circuit.specs.declared.Circuit.TheViews.{AtLeast}
use Rattle.threshold_circuit.specs.Circuits as Circuits
use Rattle.threshold_circuit.specs.Circuits.{Inputs, always, never, leaf, at_least, end_of_gate, input, input_count}
use Rattle.threshold_circuit.specs.Simplified.{always_count, undecided, threshold_over}
use Rattle.threshold_circuit.specs.Views.{circuit_view, inputs_view}
use Rattle.threshold_circuit.specs.Gathering.{joined}
use Rattle.std.proofs.lemmas.List.{drop_all}
use Rattle.threshold_circuit.proofs.ViewLaws.{circuit_view_at_least, cut_circuits}

pub joined_end : (es : Inputs) → joined es end_of_gate ≡ es
joined_end end_of_gate = refl
joined_end (input c es) = ap (input c) (joined_end es)

pub joined_joined : (xs ys zs : Inputs) → joined (joined xs ys) zs ≡ joined xs (joined ys zs)
joined_joined end_of_gate ys zs = refl
joined_joined (input c xs) ys zs = ap (input c) (joined_joined xs ys zs)

pub entries_push : (xs : List Circuit) (c : Circuit) → inputs_view (xs ++ c ∷ []) ≡ joined (inputs_view xs) (input (circuit_view c) end_of_gate)
entries_push [] c = refl
entries_push (x ∷ xs) c = ap (input (circuit_view x)) (entries_push xs c)

pub input_count_view : (xs : List Circuit) → input_count (inputs_view xs) ≡ length xs
input_count_view [] = refl
input_count_view (x ∷ xs) = omega (arith, input_count_view xs)

pub nothing_kept : (es : Inputs) (c : Circuit) → undecided (input (circuit_view c) end_of_gate) ≡ end_of_gate → es ≡ joined es (undecided (input (circuit_view c) end_of_gate))
nothing_kept es c none = sym (ap (joined es) none ∙ joined_end es)

pub always_kept : (es : Inputs) (c : Circuit) → c ≡ Always → es ≡ joined es (undecided (input (circuit_view c) end_of_gate))
always_kept es c is = nothing_kept es c (ap (λ (d : Circuit). undecided (input (circuit_view d) end_of_gate)) is)

-- an input that is always true lowers the threshold by one
pub always_one : (c : Circuit) → c ≡ Always → always_count (input (circuit_view c) end_of_gate) ≡ 1
always_one c is = ap (λ (d : Circuit). always_count (input (circuit_view d) end_of_gate)) is

pub never_kept : (es : Inputs) (c : Circuit) → c ≡ Never → es ≡ joined es (undecided (input (circuit_view c) end_of_gate))
never_kept es c is = nothing_kept es c (ap (λ (d : Circuit). undecided (input (circuit_view d) end_of_gate)) is)

other_undecided : (c : Circuit) → (c ≡ Always → ⊥) → (c ≡ Never → ⊥) → undecided (input (circuit_view c) end_of_gate) ≡ input (circuit_view c) end_of_gate
other_undecided Always a n = absurd (a refl)
other_undecided Never a n = absurd (n refl)
other_undecided (Node v) a n = refl
other_undecided (AtLeast' k shape row) a n = refl

pub other_kept : (xs ys : List Circuit) (c : Circuit) → ys ≡ xs ++ c ∷ [] → (c ≡ Always → ⊥) → (c ≡ Never → ⊥) → inputs_view ys ≡ joined (inputs_view xs) (undecided (input (circuit_view c) end_of_gate))
other_kept xs ys c at a n = ap inputs_view at ∙ entries_push xs c ∙ ap (joined (inputs_view xs)) (sym (other_undecided c a n))

threshold_by : (k : ℕ) (es : Inputs) (zero_left too_many : Bool) → (k == 0) ≡ zero_left → nat_lt (input_count es) k ≡ too_many → (if k == 0 then always else (if nat_lt (input_count es) k then never else at_least k es)) ≡ (if zero_left then always else (if too_many then never else at_least k es))
threshold_by k es zero_left too_many is_zero is_many = rw (is_zero, is_many) refl

pub never_threshold : (k : ℕ) (xs : List Circuit) → length xs < k → never ≡ threshold_over k (inputs_view xs)
never_threshold k xs many =
    let zero_left : (k == 0) ≡ false = grind (arith, nat_tests) in
    let too_many : nat_lt (input_count (inputs_view xs)) k ≡ true = grind (arith, nat_tests, input_count_view xs) in
    sym (threshold_by k (inputs_view xs) false true zero_left too_many)

pub at_least_threshold : (k : ℕ) (v : Vec Circuit Global) → 1 ≤ k → k ≤ length v.items → circuit_view (AtLeast k v) ≡ threshold_over k (inputs_view v.items)
at_least_threshold k v some few =
    let zero_left : (k == 0) ≡ false = grind (arith, nat_tests) in
    let too_many : nat_lt (input_count (inputs_view v.items)) k ≡ false = grind (arith, nat_tests, input_count_view v.items) in
    circuit_view_at_least k v ∙ sym (threshold_by k (inputs_view v.items) false false zero_left too_many)

-- what is gathered so far and the circuits that are left come to what was gathered at first and all circuits
pub record StillGathers (first_threshold threshold : ℕ) (first_entries entries all rest : Inputs) : Type 0 where
  pub lowered : threshold - always_count rest ≡ first_threshold - always_count all
  pub kept : joined entries (undecided rest) ≡ joined first_entries (undecided all)

always_step : (c : Circuits.Circuit) (rest : Inputs) → always_count (input c rest) ≡ always_count (input c end_of_gate) + always_count rest
always_step always rest = omega arith
always_step never rest = omega arith
always_step (leaf v) rest = omega arith
always_step (at_least k es) rest = omega arith

undecided_step : (c : Circuits.Circuit) (rest : Inputs) → undecided (input c rest) ≡ joined (undecided (input c end_of_gate)) (undecided rest)
undecided_step always rest = refl
undecided_step never rest = refl
undecided_step (leaf v) rest = refl
undecided_step (at_least k es) rest = refl

pub gather_step : (t0 t t' : ℕ) (e0 e e' all rest : Inputs) (c : Circuits.Circuit) → StillGathers t0 t e0 e all (input c rest) → t' ≡ t - always_count (input c end_of_gate) → e' ≡ joined e (undecided (input c end_of_gate)) → StillGathers t0 t' e0 e' all rest
gather_step t0 t t' e0 e e' all rest c still at_threshold at_entries = record {
  lowered = omega (arith, still.lowered, always_step c rest, at_threshold);
  kept = ap (λ (x : Inputs). joined x (undecided rest)) at_entries ∙ joined_joined e (undecided (input c end_of_gate)) (undecided rest) ∙ ap (joined e) (sym (undecided_step c rest)) ∙ still.kept;
}

pub gather_circuit : (t0 t t' : ℕ) (e0 e e' all rest : Inputs) (c : Circuits.Circuit) (d : Circuit) → StillGathers t0 t e0 e all (input c rest) → circuit_view d ≡ c → t' ≡ t - always_count (input (circuit_view d) end_of_gate) → e' ≡ joined e (undecided (input (circuit_view d) end_of_gate)) → StillGathers t0 t' e0 e' all rest
gather_circuit t0 t t' e0 e e' all rest c d still is at_threshold at_entries =
    gather_step t0 t t' e0 e e' all rest c still
    (at_threshold ∙ ap (λ (x : Circuits.Circuit). t - always_count (input x end_of_gate)) is)
    (at_entries ∙ ap (λ (x : Circuits.Circuit). joined e (undecided (input x end_of_gate))) is)

pub gathered_all : (t0 t : ℕ) (e0 e all rest : Inputs) → StillGathers t0 t e0 e all rest → rest ≡ end_of_gate → e ≡ joined e0 (undecided all)
gathered_all t0 t e0 e all rest still none = sym (joined_end e) ∙ ap (λ (x : Inputs). joined e (undecided x)) (sym none) ∙ still.kept

-- ---- entries that are copied

pub copied_more : (i : ℕ) (items copies : List Circuit) (x y : Circuit) (copies' : List Circuit) → i < length items → x ≡ get_or items i x → circuit_view y ≡ circuit_view x → copies' ≡ copies ++ y ∷ [] → joined (inputs_view copies) (inputs_view (drop i items)) ≡ inputs_view items → joined (inputs_view copies') (inputs_view (drop (i + 1) items)) ≡ inputs_view items
copied_more i items copies x y copies' low item same at was =
    let rest = inputs_view (drop (i + 1) items) in
    ap (λ (cs : List Circuit). joined (inputs_view cs) rest) at
    ∙ ap (λ (es : Inputs). joined es rest) (entries_push copies y)
    ∙ joined_joined (inputs_view copies) (input (circuit_view y) end_of_gate) rest
    ∙ ap (λ (c : Circuits.Circuit). joined (inputs_view copies) (input c rest)) same
    ∙ ap (λ (cs : List Circuit). joined (inputs_view copies) (inputs_view cs)) (sym (cut_circuits i items x item low))
    ∙ was

pub copied_all : (k i : ℕ) (items copies : List Circuit) (self : Circuit) → circuit_view self ≡ at_least k (inputs_view items) → length items ≤ i → joined (inputs_view copies) (inputs_view (drop i items)) ≡ inputs_view items → at_least k (inputs_view copies) ≡ circuit_view self
copied_all k i items copies self is all was =
    let none : drop i items ≡ [] = drop_all i items all in
    ap (at_least k) (sym (joined_end (inputs_view copies)) ∙ ap (λ (cs : List Circuit). joined (inputs_view copies) (inputs_view cs)) (sym none) ∙ was) ∙ sym is
