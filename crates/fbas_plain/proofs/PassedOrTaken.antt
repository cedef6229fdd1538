-- A pick from some entries passes over the first of them, or takes it.
use Rattle.std.proofs.Common.{◌≡◌, ℕ, zero, suc, ◌-◌, ◌<◌, ◌≤◌, ◌⊎◌, ◌↔◌, Bool, true, false, ◌==◌, IsTrue, List, [], ◌∷◌, inl, inr, refl, sym, subst, arith, length}
use Rattle.std.proofs.lemmas.Bool.{eqb-true, eq-eqb, or_left, or_right, false≢true, both_ways}
use Rattle.fbas_model.specs.Nodes.{Nodes, ◌∈◌, ◌⊆◌, ∅, only, ◌∪◌}
use Rattle.fbas_model.specs.Trees.{QuorumSet, quorum_set, Entries, none, node, inner}
use Rattle.fbas_model.specs.QuorumSets.{count, Pick, done, pass_node, take_node, pass_inner, take_inner, Choice, choice, HasChoiceWithin}
use Rattle.fbas_model.proofs.Counting.{only_within, both_within}
use Rattle.fbas_model.specs.Lists.{inner_entries, entries_of}
use Rattle.fbas_plain.specs.Plain.{HasPickWithin}

pick_le-count : {entries : Entries} {k : ℕ} {s : Nodes} → Pick entries k s → k ≤ count entries
pick_le-count done = omega arith
pick_le-count (pass_node p) = omega (arith, pick_le-count p)
pick_le-count (take_node p) = omega (arith, pick_le-count p)
pick_le-count (pass_inner p) = omega (arith, pick_le-count p)
pick_le-count (take_inner c p) = omega (arith, pick_le-count p)

-- the entry is taken, and one fewer of the others
pub record Taken (part : Type 0) (rest : Entries) (k : ℕ) (u : Nodes) : Type 0 where
  pub some : 0 < k
  pub part_in : part
  pub others : HasPickWithin rest (k - 1) u

module _ (u : Nodes) (w : ℕ) (rest : Entries) where
  node_passed : (k : ℕ) → HasPickWithin rest k u → HasPickWithin (node w rest) k u
  node_passed k h = (h.0, pass_node h.1, h.2)

  node_taken : (k : ℕ) → Taken (w ∈ u) rest k u → HasPickWithin (node w rest) k u
  node_taken zero t = absurd (let h = t.some in omega arith)
  node_taken (suc k) t =
      let e : suc k - 1 ≡ k = omega arith in
      let h = subst (λ (j : ℕ). HasPickWithin rest j u) e t.others in
      (only w ∪ h.0, take_node h.1, both_within u (only w) h.0 (only_within u w t.part_in) h.2)

  node_cases : (k : ℕ) (s : Nodes) → Pick (node w rest) k s → s ⊆ u → HasPickWithin rest k u ⊎ Taken (w ∈ u) rest k u
  node_cases k s (pass_node p) h = inl (s, p, h)
  node_cases (suc k) s (take_node {s = t} p) h =
      let e : k ≡ suc k - 1 = omega arith in
      inr (record {
        some = omega arith;
        part_in = h w (or_left (w == w) (t w) (eq-eqb w w refl));
        others = subst (λ (j : ℕ). HasPickWithin rest j u) e (t, p, λ v at. h v (or_right (v == w) (t v) at));
      })

module _ (u : Nodes) (q : QuorumSet) (rest : Entries) where
  inner_passed : (k : ℕ) → HasPickWithin rest k u → HasPickWithin (inner q rest) k u
  inner_passed k h = (h.0, pass_inner h.1, h.2)

  inner_taken : (k : ℕ) → Taken (HasChoiceWithin q u) rest k u → HasPickWithin (inner q rest) k u
  inner_taken zero t = absurd (let h = t.some in omega arith)
  inner_taken (suc k) t =
      let e : suc k - 1 ≡ k = omega arith in
      let h = subst (λ (j : ℕ). HasPickWithin rest j u) e t.others in
      let c = t.part_in in
      (c.0 ∪ h.0, take_inner c.1 h.1, both_within u c.0 h.0 c.2 h.2)

  inner_cases : (k : ℕ) (s : Nodes) → Pick (inner q rest) k s → s ⊆ u → HasPickWithin rest k u ⊎ Taken (HasChoiceWithin q u) rest k u
  inner_cases k s (pass_inner p) h = inl (s, p, h)
  inner_cases (suc k) s (take_inner {part = part} {s = t} c p) h =
      let e : k ≡ suc k - 1 = omega arith in
      inr (record {
        some = omega arith;
        part_in = (part, c, λ v at. h v (or_left (part v) (t v) at));
        others = subst (λ (j : ℕ). HasPickWithin rest j u) e (t, p, λ v at. h v (or_right (part v) (t v) at));
      })

-- the first entry is passed over, or taken
pub record Splits (whole passed taken : Type 0) : Type 0 where
  pub from_passed : passed → whole
  pub from_taken : taken → whole
  pub cases : whole → passed ⊎ taken

pub splits_node : (u : Nodes) (xs ws : List ℕ) (w : ℕ) (qs : List QuorumSet) (k : ℕ) → xs ≡ w ∷ ws → Splits (HasPickWithin (entries_of xs qs) k u) (HasPickWithin (entries_of ws qs) k u) (Taken (w ∈ u) (entries_of ws qs) k u)
splits_node u xs ws w qs k e = subst (λ (xs : List ℕ). Splits (HasPickWithin (entries_of xs qs) k u) (HasPickWithin (entries_of ws qs) k u) (Taken (w ∈ u) (entries_of ws qs) k u)) (sym e) (record {
  from_passed = node_passed u w (entries_of ws qs) k;
  from_taken = node_taken u w (entries_of ws qs) k;
  cases = λ h. node_cases u w (entries_of ws qs) k h.0 h.1 h.2;
})

pub splits_inner : (u : Nodes) (xs qs : List QuorumSet) (q : QuorumSet) (k : ℕ) → xs ≡ q ∷ qs → Splits (HasPickWithin (inner_entries xs) k u) (HasPickWithin (inner_entries qs) k u) (Taken (HasChoiceWithin q u) (inner_entries qs) k u)
splits_inner u xs qs q k e = subst (λ (xs : List QuorumSet). Splits (HasPickWithin (inner_entries xs) k u) (HasPickWithin (inner_entries qs) k u) (Taken (HasChoiceWithin q u) (inner_entries qs) k u)) (sym e) (record {
  from_passed = inner_passed u q (inner_entries qs) k;
  from_taken = inner_taken u q (inner_entries qs) k;
  cases = λ h. inner_cases u q (inner_entries qs) k h.0 h.1 h.2;
})

module _ {whole passed taken : Type 0} (split : Splits whole passed taken) (p : Bool) (says : IsTrue p ↔ passed) where
  pub when_passed : p ≡ true → IsTrue p ↔ whole
  when_passed e = (λ h. split.from_passed (says.0 h), λ _. e)

  pub when_not_taken : p ≡ false → (taken → ⊥) → (r : Bool) → r ≡ false → IsTrue r ↔ whole
  when_not_taken e not_taken r off = (
    λ h. absurd (both_ways r off h),
    λ h. absurd (elim (split.cases h) [ inl a ↦ both_ways p e (says.1 a) | inr b ↦ not_taken b ]),
  )

  pub when_taken : p ≡ false → (r : Bool) → (IsTrue r → taken) → (taken → IsTrue r) → IsTrue r ↔ whole
  when_taken e r there back = (λ h. split.from_taken (there h), λ h. elim (split.cases h) [ inl a ↦ absurd (both_ways p e (says.1 a)) | inr b ↦ back b ])

none_is : (k : ℕ) (s : Nodes) → Pick none k s → k ≡ 0
none_is k s done = refl

-- from no entries none are picked
pub pick_none : (u : Nodes) (xs : List QuorumSet) (k : ℕ) → length xs ≡ 0 → IsTrue (k == 0) ↔ HasPickWithin (inner_entries xs) k u
pick_none u [] k e = (
  λ t. subst (λ (k : ℕ). HasPickWithin none k u) (sym (eqb-true k 0 t)) (∅, done, λ v at. absurd (false≢true at)),
  λ h. eq-eqb k 0 (none_is k h.0 h.1),
)
pick_none u (x ∷ xs) k e = absurd (omega arith)

pub choice_of_pick : (u : Nodes) (k : ℕ) (entries : Entries) → 1 ≤ k → HasPickWithin entries k u → HasChoiceWithin (quorum_set k entries) u
choice_of_pick u k entries low h = (h.0, choice low (pick_le-count h.1) h.1, h.2)

chosen : {k : ℕ} {entries : Entries} {s : Nodes} → Choice (quorum_set k entries) s → (1 ≤ k) × Pick entries k s
chosen (choice low high p) = (low, p)

pub pick_of_choice : (u : Nodes) (k : ℕ) (entries : Entries) → HasChoiceWithin (quorum_set k entries) u → (1 ≤ k) × HasPickWithin entries k u
pick_of_choice u k entries h = let c = chosen h.1 in (c.0, (h.0, c.1, h.2))
