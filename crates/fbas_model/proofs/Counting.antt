-- A quorum set has a choice inside a set exactly where enough of its entries have a part inside it.
use Rattle.std.proofs.Common.{◌≡◌, ℕ, zero, suc, ◌+◌, ◌≤◌, ◌↔◌, Bool, true, false, ◌==◌, IsTrue, cond, inl, inr, refl, sym, ◌∙◌, subst, arith, leb}
use Rattle.std.proofs.lemmas.Bool.{cases_Bool, and_parts, and_from, leb-true, le-leb, eqb-true, eq-eqb, or_cases, or_left, or_right, false≢true}
use Rattle.fbas_model.specs.Nodes.{Nodes, ◌∈◌, ◌⊆◌, ∅, only, ◌∪◌}
use Rattle.fbas_model.specs.Trees.{QuorumSet, quorum_set, Entries, none, node, inner}
use Rattle.fbas_model.specs.QuorumSets.{count, Pick, done, pass_node, take_node, pass_inner, take_inner, Choice, choice, HasChoiceWithin}
use Rattle.fbas_model.specs.Counting.{is_satisfied, count_met}

pub count_met_le-count : (u : Nodes) (entries : Entries) → count_met u entries ≤ count entries
count_met_le-count u none = omega arith
count_met_le-count u (node w rest) = elim (u w) as (λ b. cond b 1 0 + count_met u rest ≤ 1 + count rest) [ true ↦ omega (arith, count_met_le-count u rest) | false ↦ omega (arith, count_met_le-count u rest) ]
count_met_le-count u (inner q rest) = elim (is_satisfied u q) as (λ b. cond b 1 0 + count_met u rest ≤ 1 + count rest) [ true ↦ omega (arith, count_met_le-count u rest) | false ↦ omega (arith, count_met_le-count u rest) ]

mutual
  pub pick_met : (u : Nodes) {entries : Entries} {k : ℕ} {s : Nodes} → Pick entries k s → s ⊆ u → k ≤ count_met u entries
  pick_met u done h = omega arith
  pick_met u (pass_node p) h = omega (arith, pick_met u p h)
  pick_met u (take_node {w} {rest} {k} {s} p) h =
      let here : w ∈ u = h w (or_left (w == w) (s w) (eq-eqb w w refl)) in
      rw here (omega (arith, pick_met u p (λ v at. h v (or_right (v == w) (s v) at))))
  pick_met u (pass_inner p) h = omega (arith, pick_met u p h)
  pick_met u (take_inner {q} {rest} {k} {part} {s} c p) h =
      let met = choice_satisfied u c (λ v at. h v (or_left (part v) (s v) at)) in
      rw met (omega (arith, pick_met u p (λ v at. h v (or_right (part v) (s v) at))))

  pub choice_satisfied : (u : Nodes) {q : QuorumSet} {s : Nodes} → Choice q s → s ⊆ u → is_satisfied u q ≡ true
  choice_satisfied u (choice {k} {entries} {s} low high p) h = and_from (leb 1 k) (leb k (count_met u entries)) (le-leb 1 k low) (le-leb k (count_met u entries) (pick_met u p h))

pub only_within : (u : Nodes) (w : ℕ) → w ∈ u → only w ⊆ u
only_within u w here v at = subst (λ x. x ∈ u) (sym (eqb-true v w at)) here

pub both_within : (u s t : Nodes) → s ⊆ u → t ⊆ u → (s ∪ t) ⊆ u
both_within u s t p q v h = elim (or_cases (s v) (t v) h) [ inl a ↦ p v a | inr b ↦ q v b ]

abbrev Picks : Nodes → Entries → ℕ → Type 0
Picks u entries k = (s : Nodes) × Pick entries k s × s ⊆ u

picks_none : (u : Nodes) (k : ℕ) → k ≤ 0 → Picks u none k
picks_none u zero h = (∅, done, λ v e. absurd (false≢true e))
picks_none u (suc k) h = absurd (omega arith)

picks_node : (u : Nodes) (w : ℕ) (rest : Entries) → ((k : ℕ) → k ≤ count_met u rest → Picks u rest k) → (k : ℕ) → k ≤ 1 + count_met u rest → w ∈ u → Picks u (node w rest) k
picks_node u w rest later zero h here = let p = later zero (omega arith) in (p.0, pass_node p.1, p.2)
picks_node u w rest later (suc k) h here =
    let p = later k (omega arith) in
    (only w ∪ p.0, take_node p.1, both_within u (only w) p.0 (only_within u w here) p.2)

picks_inner : (u : Nodes) (q : QuorumSet) (rest : Entries) → HasChoiceWithin q u → ((k : ℕ) → k ≤ count_met u rest → Picks u rest k) → (k : ℕ) → k ≤ 1 + count_met u rest → Picks u (inner q rest) k
picks_inner u q rest c later zero h = let p = later zero (omega arith) in (p.0, pass_inner p.1, p.2)
picks_inner u q rest c later (suc k) h =
    let p = later k (omega arith) in
    (c.0 ∪ p.0, take_inner c.1 p.1, both_within u c.0 p.0 c.2 p.2)

mutual
  pub met_picks : (u : Nodes) (entries : Entries) (k : ℕ) → k ≤ count_met u entries → Picks u entries k
  met_picks u none k h = picks_none u k h
  met_picks u (node w rest) k h = elim (cases_Bool (u w)) [
    | inl met ↦ picks_node u w rest (met_picks u rest) k (rw met at h) met
    | inr unmet ↦ let p = met_picks u rest k (let g : k ≤ 0 + count_met u rest = rw unmet at h in omega arith) in (p.0, pass_node p.1, p.2)
  ]
  met_picks u (inner q rest) k h = elim (cases_Bool (is_satisfied u q)) [
    | inl met ↦ picks_inner u q rest (satisfied_choice u q met) (met_picks u rest) k (rw met at h)
    | inr unmet ↦ let p = met_picks u rest k (let g : k ≤ 0 + count_met u rest = rw unmet at h in omega arith) in (p.0, pass_inner p.1, p.2)
  ]

  pub satisfied_choice : (u : Nodes) (q : QuorumSet) → is_satisfied u q ≡ true → HasChoiceWithin q u
  satisfied_choice u (quorum_set k entries) met =
      let parts = and_parts (leb 1 k) (leb k (count_met u entries)) met in
      let high = leb-true k (count_met u entries) parts.1 in
      let p = met_picks u entries k high in
      (p.0, choice (leb-true 1 k parts.0) (omega (arith, count_met_le-count u entries)) p.1, p.2)

-- a test that says whether there is a choice inside u is `is_satisfied`
pub is_satisfied-is : (u : Nodes) (q : QuorumSet) (b : Bool) → (IsTrue b ↔ HasChoiceWithin q u) → b ≡ is_satisfied u q
is_satisfied-is u q b h = elim (cases_Bool b) [
  | inl e ↦ let c = h.0 e in e ∙ sym (choice_satisfied u c.1 c.2)
  | inr e ↦ elim (cases_Bool (is_satisfied u q)) [ inl f ↦ h.1 (satisfied_choice u q f) ∙ sym f | inr f ↦ e ∙ sym f ]
]
