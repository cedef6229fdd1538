-- A choice gives nodes that stand in its quorum set, so a slice lies among the nodes of the system.
use Rattle.std.proofs.Common.{◌≡◌, ℕ, ◌<◌, ◌↔◌, inl, inr, true, false, not, ◌&&◌, ◌==◌, nat_lt, length, Some, slice_get, subst, sym}
use Rattle.std.proofs.lemmas.Bool.{and_parts, and_from, or_left, or_right, or_cases, not_from_false, false≢true, eqb-true, lt-ltb}
use Rattle.fbas_model.specs.Nodes.{Nodes, ◌∈◌, ◌⊆◌, ∅, ◌∪◌, ◌∖◌, outside}
use Rattle.fbas_model.specs.Trees.{QuorumSet, quorum_set, Entries, none, node, inner}
use Rattle.fbas_model.specs.QuorumSets.{Pick, done, pass_node, take_node, pass_inner, take_inner, Choice, choice, HasChoiceWithin, mentioned, mentioned_by, IsBelow, AreBelow}
use Rattle.fbas_model.specs.Fbas.{Fbas, HasSliceWithin, all_nodes}
use Rattle.fbas_model.proofs.Slices.{slice_iff}

mutual
  pub pick_mentioned : {entries : Entries} {k : ℕ} {s : Nodes} → Pick entries k s → s ⊆ mentioned_by entries
  pick_mentioned done x at = absurd (false≢true at)
  pick_mentioned (pass_node {w} {rest} p) x at = or_right (x == w) (mentioned_by rest x) (pick_mentioned p x at)
  pick_mentioned (pass_inner {q} {rest} p) x at = or_right (mentioned q x) (mentioned_by rest x) (pick_mentioned p x at)
  pick_mentioned (take_node {w} {rest} {k} {s} p) x at = elim (or_cases (x == w) (s x) at) [
    | inl e ↦ or_left (x == w) (mentioned_by rest x) e
    | inr e ↦ or_right (x == w) (mentioned_by rest x) (pick_mentioned p x e)
  ]
  pick_mentioned (take_inner {q} {rest} {k} {part} {s} c p) x at = elim (or_cases (part x) (s x) at) [
    | inl e ↦ or_left (mentioned q x) (mentioned_by rest x) (choice_mentioned c x e)
    | inr e ↦ or_right (mentioned q x) (mentioned_by rest x) (pick_mentioned p x e)
  ]

  pub choice_mentioned : {q : QuorumSet} {s : Nodes} → Choice q s → s ⊆ mentioned q
  choice_mentioned (choice low high p) x at = pick_mentioned p x at

mutual
  pub mentioned_below : (n : ℕ) (q : QuorumSet) → IsBelow n q → mentioned q ⊆ (λ v. nat_lt v n)
  mentioned_below n (quorum_set k entries) h x at = mentioned_by_below n entries h x at

  pub mentioned_by_below : (n : ℕ) (entries : Entries) → AreBelow n entries → mentioned_by entries ⊆ (λ v. nat_lt v n)
  mentioned_by_below n none h x at = absurd (false≢true at)
  mentioned_by_below n (node w rest) h x at = elim (or_cases (x == w) (mentioned_by rest x) at) [
    | inl e ↦ subst (λ (y : ℕ). nat_lt y n ≡ true) (sym (eqb-true x w e)) (lt-ltb w n h.0)
    | inr e ↦ mentioned_by_below n rest h.1 x e
  ]
  mentioned_by_below n (inner q rest) h x at = elim (or_cases (mentioned q x) (mentioned_by rest x) at) [
    | inl e ↦ mentioned_below n q h.0 x e
    | inr e ↦ mentioned_by_below n rest h.1 x e
  ]

-- what a choice that avoids s lies in
choice_left : (n : ℕ) (s : Nodes) (d : QuorumSet) → IsBelow n d → HasChoiceWithin d (outside s) → HasChoiceWithin d (((λ v. nat_lt v n) ∖ s) ∪ ∅)
choice_left n s d below c = (c.0, c.1, λ x at. or_left (nat_lt x n && not (s x)) false (and_from (nat_lt x n) (not (s x)) (mentioned_below n d below x (choice_mentioned c.1 x at)) (c.2 x at)))

choice_out : (all s : Nodes) (d : QuorumSet) → HasChoiceWithin d ((all ∖ s) ∪ ∅) → HasChoiceWithin d (outside s)
choice_out all s d c = (c.0, c.1, λ x at. elim (or_cases (all x && not (s x)) false (c.2 x at)) [ inl e ↦ (and_parts (all x) (not (s x)) e).1 | inr e ↦ absurd (false≢true e) ])

-- a node outside s has a slice outside s exactly where its quorum set has a choice that avoids s
pub slice_outside_iff : (f : Fbas) (s : Nodes) (v : ℕ) (d : QuorumSet) → slice_get f v ≡ Some (Some d) → IsBelow (length f) d → v < length f → s v ≡ false → HasChoiceWithin d (outside s) ↔ HasSliceWithin f ∅ v (all_nodes f ∖ s)
slice_outside_iff f s v d has below low out =
    let u = all_nodes f ∖ s in
    let here : v ∈ (u ∪ ∅) = or_left (all_nodes f v && not (s v)) false (and_from (all_nodes f v) (not (s v)) (lt-ltb v (length f) low) (not_from_false (s v) out)) in
    let law = slice_iff f ∅ u v d has here in
    (λ c. law.0 (choice_left (length f) s d below c), λ h. choice_out (all_nodes f) s d (law.1 h))
