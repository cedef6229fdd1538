-- Changes keep the limits of systems.
use Rattle.std.proofs.Common.{◌≡◌, ℕ, zero, suc, ◌+◌, ◌≤◌, ◌<◌, ◌==◌, max, true, false, cond, List, [], ◌∷◌, length, refl, ap, arith, Option, Some, None, slice_index_or, sym, ◌∙◌}
use Rattle.std.specs.Prelude.{set, slice_get}
use Rattle.std.proofs.lemmas.Option.{get_or_from_slice_get}
use Rattle.fbas_model.specs.Trees.{QuorumSet, quorum_set, Entries, none, node, inner}
use Rattle.fbas_model.specs.QuorumSets.{IsBelow, AreBelow, all_entries, all_entries_of, depth, depth_of}
use Rattle.fbas_model.specs.Fbas.{Fbas}
use Rattle.fbas_model.specs.Systems.{IsWithin, entries_in}
use Rattle.whatif_session.specs.Changes.{entries_if_any, with_inner, at_path, with_validator, without_validator, changed_here, changed_at}
use Rattle.whatif_session.specs.declared.change.Change.{Change}
use Rattle.whatif_session.specs.declared.change.Change.TheVariants.{Threshold, Add, Drop}

-- ---- nodes below n

below_inner : (n i : ℕ) (c : QuorumSet → QuorumSet) → ((q : QuorumSet) → IsBelow n q → IsBelow n (c q)) → (es : Entries) → AreBelow n es → AreBelow n (with_inner i c es)
below_inner n i c keeps none h = h
below_inner n i c keeps (node w rest) h = (h.0, below_inner n i c keeps rest h.1)
below_inner n zero c keeps (inner q rest) h = (keeps q h.0, h.1)
below_inner n (suc i) c keeps (inner q rest) h = (h.0, below_inner n i c keeps rest h.1)

below_path : (n : ℕ) (path : List ℕ) (c : QuorumSet → QuorumSet) → ((q : QuorumSet) → IsBelow n q → IsBelow n (c q)) → (q : QuorumSet) → IsBelow n q → IsBelow n (at_path path c q)
below_path n [] c keeps q h = keeps q h
below_path n (i ∷ is) c keeps (quorum_set k es) h = below_inner n i (at_path is c) (below_path n is c keeps) es h

below_added : (n w : ℕ) → w < n → (es : Entries) → AreBelow n es → AreBelow n (with_validator w es)
below_added n w low none h = (low, h)
below_added n w low (node v rest) h = (h.0, below_added n w low rest h.1)
below_added n w low (inner q rest) h = (low, h)

below_dropped : (n w : ℕ) (es : Entries) → AreBelow n es → AreBelow n (without_validator w es)
below_dropped n w none h = h
below_dropped n w (node v rest) h = elim (v == w) as (λ b. AreBelow n (cond b rest (node v (without_validator w rest)))) [
  | true ↦ h.1
  | false ↦ (h.0, below_dropped n w rest h.1)
]
below_dropped n w (inner q rest) h = (h.0, below_dropped n w rest h.1)

-- the node that a change adds is below n
abbrev pub AddsBelow : ℕ → Change → Type 0
AddsBelow n (Threshold k) = Unit {0}
AddsBelow n (Add w) = w < n
AddsBelow n (Drop w) = Unit {0}

below_here : (n : ℕ) (change : Change) → AddsBelow n change → (q : QuorumSet) → IsBelow n q → IsBelow n (changed_here change q)
below_here n (Threshold k) low (quorum_set j es) h = h
below_here n (Add w) low (quorum_set j es) h = below_added n w low es h
below_here n (Drop w) low (quorum_set j es) h = below_dropped n w es h

-- ---- depth

depth_inner : (i : ℕ) (c : QuorumSet → QuorumSet) → ((q : QuorumSet) → depth (c q) ≡ depth q) → (es : Entries) → depth_of (with_inner i c es) ≡ depth_of es
depth_inner i c same none = refl
depth_inner i c same (node w rest) = depth_inner i c same rest
depth_inner zero c same (inner q rest) = ap (λ (d : ℕ). max d (depth_of rest)) (same q)
depth_inner (suc i) c same (inner q rest) = ap (λ (d : ℕ). max (depth q) d) (depth_inner i c same rest)

depth_path : (path : List ℕ) (c : QuorumSet → QuorumSet) → ((q : QuorumSet) → depth (c q) ≡ depth q) → (q : QuorumSet) → depth (at_path path c q) ≡ depth q
depth_path [] c same q = same q
depth_path (i ∷ is) c same (quorum_set k es) = ap (λ (d : ℕ). 1 + d) (depth_inner i (at_path is c) (depth_path is c same) es)

depth_added : (w : ℕ) (es : Entries) → depth_of (with_validator w es) ≡ depth_of es
depth_added w none = refl
depth_added w (node v rest) = depth_added w rest
depth_added w (inner q rest) = refl

depth_dropped : (w : ℕ) (es : Entries) → depth_of (without_validator w es) ≡ depth_of es
depth_dropped w none = refl
depth_dropped w (node v rest) = elim (v == w) as (λ b. depth_of (cond b rest (node v (without_validator w rest))) ≡ depth_of rest) [
  | true ↦ refl
  | false ↦ depth_dropped w rest
]
depth_dropped w (inner q rest) = ap (λ (d : ℕ). max (depth q) d) (depth_dropped w rest)

depth_here : (change : Change) (q : QuorumSet) → depth (changed_here change q) ≡ depth q
depth_here (Threshold k) (quorum_set j es) = refl
depth_here (Add w) (quorum_set j es) = ap (λ (d : ℕ). 1 + d) (depth_added w es)
depth_here (Drop w) (quorum_set j es) = ap (λ (d : ℕ). 1 + d) (depth_dropped w es)

pub within_changed : (n : ℕ) (path : List ℕ) (change : Change) (q : QuorumSet) → AddsBelow n change → IsWithin n q → IsWithin n (changed_at path change q)
within_changed n path change q low is = record {
  below = below_path n path (changed_here change) (below_here n change low) q is.below;
  shallow = let same = depth_path path (changed_here change) (depth_here change) q in let was = is.shallow in omega (arith, same, was);
}

-- ---- entries

-- how many entries a change may add
abbrev pub growth : Change → ℕ
growth (Threshold k) = 0
growth (Add w) = 1
growth (Drop w) = 0

grown_inner : (m i : ℕ) (c : QuorumSet → QuorumSet) → ((q : QuorumSet) → all_entries (c q) ≤ all_entries q + m) → (es : Entries) → all_entries_of (with_inner i c es) ≤ all_entries_of es + m
grown_inner m i c most none = omega arith
grown_inner m i c most (node w rest) = omega (arith, grown_inner m i c most rest)
grown_inner m zero c most (inner q rest) = omega (arith, most q)
grown_inner m (suc i) c most (inner q rest) = omega (arith, grown_inner m i c most rest)

grown_path : (m : ℕ) (path : List ℕ) (c : QuorumSet → QuorumSet) → ((q : QuorumSet) → all_entries (c q) ≤ all_entries q + m) → (q : QuorumSet) → all_entries (at_path path c q) ≤ all_entries q + m
grown_path m [] c most q = most q
grown_path m (i ∷ is) c most (quorum_set k es) = grown_inner m i (at_path is c) (grown_path m is c most) es

grown_added : (w : ℕ) (es : Entries) → all_entries_of (with_validator w es) ≤ all_entries_of es + 1
grown_added w none = omega arith
grown_added w (node v rest) = omega (arith, grown_added w rest)
grown_added w (inner q rest) = omega arith

grown_dropped : (w : ℕ) (es : Entries) → all_entries_of (without_validator w es) ≤ all_entries_of es
grown_dropped w none = omega arith
grown_dropped w (node v rest) = elim (v == w) as (λ b. all_entries_of (cond b rest (node v (without_validator w rest))) ≤ 1 + all_entries_of rest) [
  | true ↦ omega arith
  | false ↦ omega (arith, grown_dropped w rest)
]
grown_dropped w (inner q rest) = omega (arith, grown_dropped w rest)

grown_here : (change : Change) (q : QuorumSet) → all_entries (changed_here change q) ≤ all_entries q + growth change
grown_here (Threshold k) (quorum_set j es) = omega arith
grown_here (Add w) (quorum_set j es) = grown_added w es
grown_here (Drop w) (quorum_set j es) = omega (arith, grown_dropped w es)

pub grown : (path : List ℕ) (change : Change) (q : QuorumSet) → all_entries (changed_at path change q) ≤ all_entries q + growth change
grown path change q = grown_path (growth change) path (changed_here change) (grown_here change) q

entries-cons : (o : Option QuorumSet) (sets : Fbas) → entries_in (o ∷ sets) ≡ entries_if_any o + entries_in sets
entries-cons None sets = omega arith
entries-cons (Some q) sets = refl

pub entries_set : (sets : Fbas) (v : ℕ) (o : Option QuorumSet) → v < length sets → entries_in (set sets v o) + entries_if_any (slice_index_or sets v None) ≡ entries_in sets + entries_if_any o
entries_set [] v o low = absurd (omega (arith, low))
entries_set (p ∷ sets) zero o low = omega (arith, entries-cons o sets, entries-cons p sets)
entries_set (p ∷ sets) (suc v) o low = omega (arith, entries_set sets v o (omega (arith, low)), entries-cons p sets, entries-cons p (set sets v o))

-- a quorum set that has no more entries than the one in its place
pub no_more : (sets : Fbas) (v : ℕ) (o : Option QuorumSet) → v < length sets → entries_if_any o ≤ entries_if_any (slice_index_or sets v None) → entries_in (set sets v o) ≤ entries_in sets
no_more sets v o low fewer = omega (arith, entries_set sets v o low, fewer)

-- no quorum set has more entries than there are
pub no_more_than_all : (sets : Fbas) (v : ℕ) → v < length sets → entries_if_any (slice_index_or sets v None) ≤ entries_in sets
no_more_than_all sets v low = omega (arith, entries_set sets v None low)

-- what stands in a place, counted
pub own_entries : (sets : Fbas) (v : ℕ) (own : Option QuorumSet) (counted : ℕ) → v < length sets → slice_get sets v ≡ Some own → counted ≡ entries_if_any own → (counted ≡ entries_if_any (slice_index_or sets v None)) × (counted ≤ entries_in sets)
own_entries sets v own counted low at is =
    let e : counted ≡ entries_if_any (slice_index_or sets v None) = is ∙ ap entries_if_any (sym (get_or_from_slice_get sets v own None at)) in
    (e, omega (arith, e, no_more_than_all sets v low))
