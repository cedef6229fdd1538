-- A quorum set by its lists, and the circuit gathered of them.
use Rattle.std.proofs.Common.{◌≡◌, ℕ, suc, ◌+◌, ◌-◌, ◌≤◌, ◌<◌, Bool, true, false, if◌then◌else◌, List, [], ◌∷◌, ◌⊎◌, length, get_or, drop, add-one, drop-cons, refl, ap, sym, ◌∙◌, arith}
use Rattle.std.proofs.lemmas.Bool.Decides.{nat_tests}
use Rattle.fbas_model.specs.Nodes.{Nodes}
use Rattle.fbas_model.specs.Trees.{QuorumSet, quorum_set, Entries}
use Rattle.fbas_model.specs.Lists.{inner_entries, entries_of}
use Rattle.fbas_model.proofs.Lists.{count-lists}
use Rattle.threshold_circuit.specs.Circuits.{Inputs, always, never, leaf, at_least, end_of_gate, input}
use Rattle.threshold_circuit.specs.Simplified.{validator_circuit, always_count, undecided, threshold_over, is_good_threshold, simplified, simplified_entries}
use Rattle.threshold_circuit.specs.Gathering.{joined}
use Rattle.threshold_circuit.proofs.GatheredLaws.{StillGathers, gathered_all}

simplified_with : (g f : Nodes) (ws : List ℕ) (qs : List QuorumSet) → simplified_entries g f (entries_of ws qs) ≡ joined (simplified_entries g f (entries_of ws [])) (simplified_entries g f (inner_entries qs))
simplified_with g f [] qs = refl
simplified_with g f (w ∷ ws) qs = ap (input (validator_circuit g f w)) (simplified_with g f ws qs)

always_joined : (xs ys : Inputs) → always_count (joined xs ys) ≡ always_count xs + always_count ys
always_joined end_of_gate ys = omega arith
always_joined (input always xs) ys = omega (arith, always_joined xs ys)
always_joined (input never xs) ys = always_joined xs ys
always_joined (input (leaf v) xs) ys = always_joined xs ys
always_joined (input (at_least k es) xs) ys = always_joined xs ys

undecided_joined : (xs ys : Inputs) → undecided (joined xs ys) ≡ joined (undecided xs) (undecided ys)
undecided_joined end_of_gate ys = refl
undecided_joined (input always xs) ys = undecided_joined xs ys
undecided_joined (input never xs) ys = undecided_joined xs ys
undecided_joined (input (leaf v) xs) ys = ap (input (leaf v)) (undecided_joined xs ys)
undecided_joined (input (at_least k es) xs) ys = ap (input (at_least k es)) (undecided_joined xs ys)

good_by : (g f : Nodes) (k : ℕ) (entries : Entries) (good : Bool) → is_good_threshold k entries ≡ good → simplified g f (quorum_set k entries) ≡ (if good then threshold_over (k - always_count (simplified_entries g f entries)) (undecided (simplified_entries g f entries)) else never)
good_by g f k entries good is = rw is refl

pub bad_set : (g f : Nodes) (k : ℕ) (ws : List ℕ) (qs : List QuorumSet) → (k ≡ 0) ⊎ (length ws + length qs < k) → never ≡ simplified g f (quorum_set k (entries_of ws qs))
bad_set g f k ws qs bad =
    let test : is_good_threshold k (entries_of ws qs) ≡ false = grind (arith, nat_tests, count-lists ws qs) in
    sym (good_by g f k (entries_of ws qs) false test)

pub good_set : (g f : Nodes) (k : ℕ) (ws : List ℕ) (qs : List QuorumSet) (t1 t2 : ℕ) (e1 e2 rest : Inputs) → 1 ≤ k → k ≤ length ws + length qs →
    t1 ≡ k - always_count (simplified_entries g f (entries_of ws [])) → e1 ≡ undecided (simplified_entries g f (entries_of ws [])) →
    StillGathers t1 t2 e1 e2 (simplified_entries g f (inner_entries qs)) rest → rest ≡ end_of_gate →
    threshold_over t2 e2 ≡ simplified g f (quorum_set k (entries_of ws qs))
good_set g f k ws qs t1 t2 e1 e2 rest some few at_threshold at_entries still ended =
    let entries = entries_of ws qs in
    let first = simplified_entries g f (entries_of ws []) in
    let second = simplified_entries g f (inner_entries qs) in
    let test : is_good_threshold k entries ≡ true = grind (arith, nat_tests, count-lists ws qs) in
    let whole : simplified_entries g f entries ≡ joined first second = simplified_with g f ws qs in
    let lowered : t2 ≡ k - always_count (simplified_entries g f entries) = omega (arith, still.lowered, at_threshold, always_joined first second, ap always_count whole, ap always_count ended) in
    let kept : e2 ≡ undecided (simplified_entries g f entries) =
    gathered_all t1 t2 e1 e2 second rest still ended ∙ ap (λ (x : Inputs). joined x (undecided second)) at_entries ∙ sym (undecided_joined first second) ∙ ap undecided (sym whole) in
    sym (good_by g f k entries true test ∙ cc (lowered, kept))

pub cut_at : (i : ℕ) (xs : List QuorumSet) (x : QuorumSet) → x ≡ get_or xs i x → i < length xs → drop i xs ≡ x ∷ drop (i + 1) xs
cut_at i xs x is low = rw (add-one, drop-cons xs i x) (ap (λ (y : QuorumSet). y ∷ drop (suc i) xs) (sym is))

pub cut_node : (i : ℕ) (xs : List ℕ) → i < length xs → drop i xs ≡ get_or xs i 0 ∷ drop (i + 1) xs
cut_node i xs low = rw (add-one, drop-cons xs i 0) refl
