-- Changes of quorum sets by their two lists.
use Rattle.std.proofs.Common.{◌≡◌, ℕ, zero, suc, ◌+◌, ◌<◌, ◌==◌, ◌||◌, Bool, true, false, cond, List, [], ◌∷◌, ◌++◌, length, refl, sym, ◌∙◌, ap, arith, inl, inr}
use Rattle.std.specs.Prelude.{slice_get, option_and_then}
use Rattle.std.specs.List.{list_any}
use Rattle.std.proofs.lemmas.Bool.{cases_Bool}
use Rattle.fbas_model.specs.Trees.{QuorumSet, quorum_set, node, inner}
use Rattle.std.proofs.Common.{take, slice_index_or}
use Rattle.std.proofs.lemmas.List.{take_more, length-take-le}
use Rattle.fbas_model.proofs.Sizes.{not_first, not_last, one_down}
use Rattle.fbas_model.specs.Lists.{inner_entries, entries_of}
use Rattle.whatif_session.specs.Changes.{inner_at, with_inner, with_validator, without_validator, without_first, threshold_after, validators_after, changed_here, changed_item, is_validator, inner_of, set_at}
use Rattle.whatif_session.specs.declared.change.Change.{Change}
use Rattle.whatif_session.specs.declared.change.Change.TheVariants.{Threshold, Add, Drop}

-- ---- validators

added : (w : ℕ) (ws : List ℕ) (qs : List QuorumSet) → with_validator w (entries_of ws qs) ≡ entries_of (ws ++ w ∷ []) qs
added w [] [] = refl
added w [] (q ∷ qs) = refl
added w (v ∷ ws) qs = ap (node v) (added w ws qs)

none_dropped : (w : ℕ) (qs : List QuorumSet) → without_validator w (inner_entries qs) ≡ inner_entries qs
none_dropped w [] = refl
none_dropped w (q ∷ qs) = ap (inner q) (none_dropped w qs)

dropped : (w : ℕ) (ws : List ℕ) (qs : List QuorumSet) → without_validator w (entries_of ws qs) ≡ entries_of (without_first w ws) qs
dropped w [] qs = none_dropped w qs
dropped w (v ∷ ws) qs = elim (cases_Bool (v == w)) [
  | inl e ↦ rw e refl
  | inr e ↦ rw e (ap (node v) (dropped w ws qs))
]

-- a change of a set's own lists
pub changed-lists : (change : Change) (k : ℕ) (ws : List ℕ) (qs : List QuorumSet) → changed_here change (quorum_set k (entries_of ws qs)) ≡ quorum_set (threshold_after change k) (entries_of (validators_after change ws) qs)
changed-lists (Threshold j) k ws qs = refl
changed-lists (Add w) k ws qs = ap (quorum_set k) (added w ws qs)
changed-lists (Drop w) k ws qs = ap (quorum_set k) (dropped w ws qs)

-- ---- the first of some nodes goes, node by node

-- what is left of the nodes from one on: all, where the first came before
abbrev pub left_of : Bool → ℕ → List ℕ → List ℕ
left_of true w vs = vs
left_of false w vs = without_first w vs

pub left_same : (w v : ℕ) (vs : List ℕ) → (v == w) ≡ true → left_of false w (v ∷ vs) ≡ left_of true w vs
left_same w v vs e = rw e refl

pub left_other : (passed : Bool) (w v : ℕ) (vs : List ℕ) → (passed ≡ false → (v == w) ≡ false) → left_of passed w (v ∷ vs) ≡ v ∷ left_of passed w vs
left_other true w v vs e = refl
left_other false w v vs e = rw (e refl) refl

-- ---- inner sets

inner_changed : (i : ℕ) (c : QuorumSet → QuorumSet) (qs : List QuorumSet) → with_inner i c (inner_entries qs) ≡ inner_entries (changed_item i c qs)
inner_changed i c [] = refl
inner_changed zero c (q ∷ qs) = refl
inner_changed (suc i) c (q ∷ qs) = ap (inner q) (inner_changed i c qs)

pub inner-lists : (i : ℕ) (c : QuorumSet → QuorumSet) (ws : List ℕ) (qs : List QuorumSet) → with_inner i c (entries_of ws qs) ≡ entries_of ws (changed_item i c qs)
inner-lists i c [] qs = inner_changed i c qs
inner-lists i c (w ∷ ws) qs = ap (node w) (inner-lists i c ws qs)

-- one set more, at the place or not
pub item_more : (i : ℕ) (c : QuorumSet → QuorumSet) (qs : List QuorumSet) (q : QuorumSet) → changed_item i c (qs ++ q ∷ []) ≡ changed_item i c qs ++ cond (length qs == i) (c q) q ∷ []
item_more zero c [] q = refl
item_more (suc i) c [] q = sym (ap (λ (b : Bool). cond b (c q) q ∷ []) (not_last i))
item_more zero c (p ∷ qs) q = sym (ap (λ (b : Bool). c p ∷ qs ++ cond b (c q) q ∷ []) (not_first (length qs)))
item_more (suc i) c (p ∷ qs) q = ap (λ (xs : List QuorumSet). p ∷ xs) (item_more i c qs q) ∙ sym (ap (λ (b : Bool). p ∷ changed_item i c qs ++ cond b (c q) q ∷ []) (one_down (length qs) i))

pub item_step : (i at : ℕ) (c : QuorumSet → QuorumSet) (qs before : List QuorumSet) (q x : QuorumSet) → at < length qs → q ≡ slice_index_or qs at q → before ≡ changed_item i c (take at qs) → x ≡ cond (at == i) (c q) q
    → before ++ x ∷ [] ≡ changed_item i c (take (at + 1) qs)
item_step i at c qs before q x low here was is =
    let long : length (take at qs) ≡ at = length-take-le at qs (omega (arith, low)) in
    let one : take (at + 1) qs ≡ take at qs ++ q ∷ [] = take_more qs at q low ∙ ap (λ (p : QuorumSet). take at qs ++ p ∷ []) (sym here) in
    ap (λ (xs : List QuorumSet). xs ++ x ∷ []) was
    ∙ ap (λ (p : QuorumSet). changed_item i c (take at qs) ++ p ∷ []) (is ∙ ap (λ (n : ℕ). cond (n == i) (c q) q) (sym long))
    ∙ sym (item_more i c (take at qs) q)
    ∙ ap (changed_item i c) (sym one)

at_inner : (i : ℕ) (qs : List QuorumSet) → inner_at i (inner_entries qs) ≡ slice_get qs i
at_inner i [] = refl
at_inner zero (q ∷ qs) = refl
at_inner (suc i) (q ∷ qs) = at_inner i qs

pub at-lists : (i : ℕ) (ws : List ℕ) (qs : List QuorumSet) → inner_at i (entries_of ws qs) ≡ slice_get qs i
at-lists i [] qs = at_inner i qs
at-lists i (w ∷ ws) qs = at-lists i ws qs

none_there : (w : ℕ) (qs : List QuorumSet) → is_validator w (inner_entries qs) ≡ false
none_there w [] = refl
none_there w (q ∷ qs) = none_there w qs

pub validator-lists : (w : ℕ) (ws : List ℕ) (qs : List QuorumSet) → is_validator w (entries_of ws qs) ≡ list_any (λ v. v == w) ws
validator-lists w [] qs = none_there w qs
validator-lists w (v ∷ ws) qs = ap (λ (b : Bool). (v == w) || b) (validator-lists w ws qs)

-- a step along a path
pub step_along : (i : ℕ) (is : List ℕ) (q : QuorumSet) → set_at (i ∷ is) q ≡ option_and_then (set_at is) (inner_of i q)
step_along i is (quorum_set k entries) = refl
