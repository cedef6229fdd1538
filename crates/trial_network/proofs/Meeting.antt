-- Every two quorums of the trial configuration share a node: each has two nodes of more than half of the organisations, so there
-- is one of which both have two, and two pairs among three nodes share one.
use Rattle.std.proofs.Common.{◌≡◌, ℕ, zero, suc, ◌+◌, ◌*◌, ◌≤◌, ◌<◌, ◌⊎◌, inl, inr, Bool, true, false, cond, Some, slice_get, replicate, refl, sym, subst, arith, leb}
use Rattle.std.proofs.lemmas.Bool.{cases_Bool, and_parts, leb-true, and_from, or_right}
use Rattle.fbas_model.specs.Nodes.{Nodes, ◌∈◌, ◌⊆◌, ∅, only, Meets}
use Rattle.fbas_model.specs.Trees.{QuorumSet}
use Rattle.fbas_model.specs.Counting.{is_satisfied, count_met}
use Rattle.fbas_model.specs.Fbas.{Intersects, Quorum}
use Rattle.fbas_model.proofs.Counting.{choice_satisfied}
use Rattle.trial_network.specs.Trial.{wanted, organisation_set, organisation_sets, trial_set, trial_system}

-- two of three
abbrev two_of : Bool → Bool → Bool → Bool
two_of a b c = leb 2 (cond a 1 0 + (cond b 1 0 + (cond c 1 0 + 0)))

one_in_both : (a b c x y z : Bool) → two_of a b c ≡ true → two_of x y z ≡ true → ((a ≡ true) × (x ≡ true)) ⊎ (((b ≡ true) × (y ≡ true)) ⊎ ((c ≡ true) × (z ≡ true)))
one_in_both true b c true y z h g = inl (refl, refl)
one_in_both true true c false true z h g = inr (inl (refl, refl))
one_in_both true true c false false true h g = absurd cc
one_in_both true true c false false false h g = absurd cc
one_in_both true false true false y true h g = inr (inr (refl, refl))
one_in_both true false true false true false h g = absurd cc
one_in_both true false true false false false h g = absurd cc
one_in_both true false false x y z h g = absurd cc
one_in_both false true true x true z h g = inr (inl (refl, refl))
one_in_both false true true x false true h g = inr (inr (refl, refl))
one_in_both false true true true false false h g = absurd cc
one_in_both false true true false false false h g = absurd cc
one_in_both false true false x y z h g = absurd cc
one_in_both false false true x y z h g = absurd cc
one_in_both false false false x y z h g = absurd cc

-- two sets that each have two of an organisation's nodes
share_node : (u w : Nodes) (o : ℕ) → is_satisfied u (organisation_set o) ≡ true → is_satisfied w (organisation_set o) ≡ true → Meets u w
share_node u w o h g = elim (one_in_both (u (3 * o)) (u (3 * o + 1)) (u (3 * o + 2)) (w (3 * o)) (w (3 * o + 1)) (w (3 * o + 2)) h g) [
  | inl p ↦ (3 * o, p.0, p.1)
  | inr q ↦ elim q [ inl p ↦ (3 * o + 1, p.0, p.1) | inr p ↦ (3 * o + 2, p.0, p.1) ]
]

-- two sets that have more of k organisations between them than there are
share_organisation : (u w : Nodes) (o k : ℕ) → k < count_met u (organisation_sets o k) + count_met w (organisation_sets o k) → Meets u w
share_organisation u w o zero h = absurd (omega arith)
share_organisation u w o (suc k) h = elim (cases_Bool (is_satisfied u (organisation_set o))) [
  | inl here ↦ elim (cases_Bool (is_satisfied w (organisation_set o))) [
    | inl there ↦ share_node u w o here there
    | inr there ↦ share_organisation u w (o + 1) k (let g : suc k < (1 + count_met u (organisation_sets (o + 1) k)) + (0 + count_met w (organisation_sets (o + 1) k)) = rw (here, there) at h in omega arith)
  ]
  | inr here ↦ elim (cases_Bool (is_satisfied w (organisation_set o))) [
    | inl there ↦ share_organisation u w (o + 1) k (let g : suc k < (0 + count_met u (organisation_sets (o + 1) k)) + (1 + count_met w (organisation_sets (o + 1) k)) = rw (here, there) at h in omega arith)
    | inr there ↦ share_organisation u w (o + 1) k (let g : suc k < (0 + count_met u (organisation_sets (o + 1) k)) + (0 + count_met w (organisation_sets (o + 1) k)) = rw (here, there) at h in omega arith)
  ]
]

-- two sets that are each what a node wants
share_wanted : (u w : Nodes) (n : ℕ) → 1 ≤ n → is_satisfied u (trial_set n) ≡ true → is_satisfied w (trial_set n) ≡ true → Meets u w
share_wanted u w n some h g =
    let a : wanted n ≤ count_met u (organisation_sets 0 n) = leb-true (wanted n) (count_met u (organisation_sets 0 n)) (and_parts (leb 1 (wanted n)) (leb (wanted n) (count_met u (organisation_sets 0 n))) h).1 in
    let b : wanted n ≤ count_met w (organisation_sets 0 n) = leb-true (wanted n) (count_met w (organisation_sets 0 n)) (and_parts (leb 1 (wanted n)) (leb (wanted n) (count_met w (organisation_sets 0 n))) g).1 in
    share_organisation u w 0 n (omega arith)

same_at : {A : Type 0} (k : ℕ) (x y : A) (v : ℕ) → slice_get (replicate k x) v ≡ Some y → x ≡ y
same_at zero x y v e = absurd cc
same_at (suc k) x y zero e = cc
same_at (suc k) x y (suc v) e = same_at k x y v e

-- a quorum has what a node wants
has_wanted : (n : ℕ) (u : Nodes) → Quorum (trial_system n).sets ∅ u → is_satisfied u (trial_set n) ≡ true
unfolding trial_system
has_wanted n u q =
    let v = q.inhabited.0 in
    let within = q.slices v q.inhabited.1 in
    let slice = within.1 in
    let d : trial_set n ≡ slice.0 = let s = same_at (3 * n) (Some (trial_set n)) (Some slice.0) v slice.1 in cc in
    let inside : slice.2 ⊆ u = λ x at. within.2 x (and_from (within.0 x) true (subst (λ (q : Nodes). x ∈ q) (sym slice.4) (or_right (only v x) (slice.2 x) at)) refl) in
    subst (λ (s : QuorumSet). is_satisfied u s ≡ true) (sym d) (choice_satisfied u slice.3 inside)

pub trial_intersects : (n : ℕ) → 1 ≤ n → Intersects (trial_system n).sets ∅
trial_intersects n some u w hu hw = share_wanted u w n some (has_wanted n u hu) (has_wanted n w hw)
