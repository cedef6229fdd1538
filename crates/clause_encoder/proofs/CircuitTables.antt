-- The table of the different circuits, as it is filled node by node.
use Rattle.std.proofs.Common.{◌≡◌, ℕ, ◌+◌, ◌≤◌, ◌<◌, Bool, true, false, if◌then◌else◌, List, [], ◌∷◌, ◌++◌, Some, length, get_or, inl, inr, refl, ap, subst, sym, ◌∙◌, arith}
use Rattle.std.specs.Prelude.{All, slice_get}
use Rattle.std.specs.List.{list_any}
use Rattle.std.proofs.lemmas.Bool.{cases_lt}
use Rattle.std.proofs.lemmas.List.{get_or_push, get_or_append_left, length_push}
use Rattle.std.proofs.lemmas.List.Elements.{All-nil, All-cons, All-append, All-weaker}
use Rattle.std.proofs.lemmas.Option.{get_or_from_slice_get}
use Rattle.indexmap.specs.IndexSet.{insert_key}
use Rattle.fbas_model.specs.Nodes.{Nodes, ◌∈◌}
use Rattle.threshold_circuit.specs.declared.Circuit as Rust
use Rattle.threshold_circuit.specs.Circuits.{Circuit}
use Rattle.threshold_circuit.specs.Views.{circuit_view}
use Rattle.threshold_circuit.specs.contracts.CircuitPartialEq.TheImpl as own
use Rattle.threshold_circuit.proofs.EqLaws.{eq_is}
use Rattle.threshold_circuit.proofs.SameLaws.{same_is}
use Rattle.clause_encoder.specs.Written.{circuit_in, IsWritable, AreWritable}

-- the different circuits with one more, where it is another
abbrev pub with_circuit : List Rust.Circuit → Rust.Circuit → List Rust.Circuit
with_circuit keys c = insert_key own.ghosts.eq keys c

length_by : (keys : List Rust.Circuit) (c : Rust.Circuit) (there : Bool) → (length keys ≤ length (if there then keys else keys ++ c ∷ [])) × (length (if there then keys else keys ++ c ∷ []) ≤ length keys + 1)
length_by keys c true = (omega arith, omega arith)
length_by keys c false = (omega (arith, length_push keys c), omega (arith, length_push keys c))

with_length : (keys : List Rust.Circuit) (c : Rust.Circuit) → (length keys ≤ length (with_circuit keys c)) × (length (with_circuit keys c) ≤ length keys + 1)
with_length keys c = length_by keys c (list_any (own.ghosts.eq c) keys)

kept_by : (keys : List Rust.Circuit) (c d : Rust.Circuit) (k : ℕ) (there : Bool) → k < length keys → get_or (if there then keys else keys ++ c ∷ []) k d ≡ get_or keys k d
kept_by keys c d k true low = refl
kept_by keys c d k false low = get_or_append_left keys (c ∷ []) d k low

-- each circuit keeps its place
with_kept : (keys : List Rust.Circuit) (c d : Rust.Circuit) (k : ℕ) → k < length keys → get_or (with_circuit keys c) k d ≡ get_or keys k d
with_kept keys c d k low = kept_by keys c d k (list_any (own.ghosts.eq c) keys) low

all_by : (P : Rust.Circuit → Type 0) (keys : List Rust.Circuit) (c : Rust.Circuit) (there : Bool) → All P keys → P c → All P (if there then keys else keys ++ c ∷ [])
all_by P keys c true all here = all
all_by P keys c false all here = All-append P keys (c ∷ []) all (All-cons P c [] here (All-nil P))

-- what is so before the node v: the kinds of those before it are places, where the circuits of the set's nodes stand
pub record Filled (n : ℕ) (set : Nodes) (f : ℕ → Circuit) (v : ℕ) (keys : List Rust.Circuit) (kinds : List ℕ) : Type 0 where
  pub size : length kinds ≡ v
  pub few : length keys ≤ v
  pub below : All (λ k. k < length keys) kinds
  pub circuits : (w : ℕ) → w < v → w ∈ set → circuit_in (record { different = keys; kinds = kinds }) w ≡ f w
  pub writable : AreWritable n keys

pub filled_none : (n : ℕ) (set : Nodes) (f : ℕ → Circuit) (keys : List Rust.Circuit) (kinds : List ℕ) → keys ≡ [] → kinds ≡ [] → Filled n set f 0 keys kinds
filled_none n set f keys kinds none no_kinds = rw (none, no_kinds) (record {
  size = refl;
  few = omega arith;
  below = All-nil (λ k. k < 0);
  circuits = λ w low is. absurd (omega (arith, low));
  writable = All-nil (λ c. IsWritable n (circuit_view c));
})

module _ (n : ℕ) (set : Nodes) (f : ℕ → Circuit) (v : ℕ) (keys : List Rust.Circuit) (kinds : List ℕ) (c : Rust.Circuit) (i : ℕ) (was : Filled n set f v keys kinds) (low : i < length (with_circuit keys c)) (stored : (k : Rust.Circuit) × (slice_get (with_circuit keys c) i ≡ Some k) × (own.ghosts.eq c k ≡ true)) where
  circuit_at_place : circuit_view (get_or (with_circuit keys c) i Rust.Never) ≡ circuit_view c
  circuit_at_place =
      ap circuit_view (get_or_from_slice_get (with_circuit keys c) i stored.0 Rust.Never stored.1)
      ∙ sym (same_is (circuit_view c) (circuit_view stored.0) (sym (eq_is c stored.0) ∙ stored.2))

  circuits_more : (v ∈ set → circuit_view c ≡ f v) → (w : ℕ) → w < v + 1 → w ∈ set → circuit_in (record { different = with_circuit keys c; kinds = kinds ++ i ∷ [] }) w ≡ f w
  circuits_more here w less is = elim (cases_lt w v) [
    | inl before ↦
        let kind = get_or kinds w 0 in
        let place : kind < length keys = was.below w 0 (omega (arith, was.size, before)) in
        let same : get_or (kinds ++ i ∷ []) w 0 ≡ kind = get_or_append_left kinds (i ∷ []) 0 w (omega (arith, was.size, before)) in
        ap (λ (k : ℕ). circuit_view (get_or (with_circuit keys c) k Rust.Never)) same
        ∙ (ap circuit_view (with_kept keys c Rust.Never kind place) ∙ was.circuits w before is)
    | inr past ↦
        let at : w ≡ v = omega (arith, less, past) in
        let own_place : v ∈ set = subst (λ (u : ℕ). u ∈ set) at is in
        let same : get_or (kinds ++ i ∷ []) v 0 ≡ i = get_or_push kinds i 0 v was.size in
        rw at (ap (λ (k : ℕ). circuit_view (get_or (with_circuit keys c) k Rust.Never)) same ∙ (circuit_at_place ∙ here own_place))
  ]

  pub filled_more : (v ∈ set → circuit_view c ≡ f v) → IsWritable n (circuit_view c) → (keys' : List Rust.Circuit) (kinds' : List ℕ) → keys' ≡ with_circuit keys c → kinds' ≡ kinds ++ i ∷ [] → Filled n set f (v + 1) keys' kinds'
  filled_more here writable keys' kinds' is at =
      let grows = with_length keys c in
      let P = λ (k : ℕ). k < length (with_circuit keys c) in
      rw (is, at) (record {
        size = length_push kinds i ∙ ap (λ (m : ℕ). m + 1) was.size;
        few = omega (arith, grows.1, was.few);
        below = All-append P kinds (i ∷ []) (All-weaker (λ k. k < length keys) P (λ k less. omega (arith, less, grows.0)) kinds was.below) (All-cons P i [] low (All-nil P));
        circuits = circuits_more here;
        writable = all_by (λ (d : Rust.Circuit). IsWritable n (circuit_view d)) keys c (list_any (own.ghosts.eq c) keys) was.writable writable;
      })
