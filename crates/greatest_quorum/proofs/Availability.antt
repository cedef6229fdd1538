-- The nodes by which availability fails, gathered in the order of their numbers.
use Rattle.std.proofs.Common.{◌≡◌, ℕ, zero, suc, ◌+◌, ◌<◌, ◌≤◌, ◌⊎◌, ◌↔◌, inl, inr, Bool, true, false, not, ◌==◌, length, refl, sym, ◌∙◌, subst, arith}
use Rattle.std.specs.Bool.{MatchBool}
use Rattle.std.proofs.lemmas.Bool.{and_parts, and_from, or_left, or_right, or_cases, not_from_false, not-true, both_ways, false≢true, cases_Bool, cases_lt, eqb-true, eq-eqb, lt-ltb, ltb-true}
use Rattle.fbas_model.specs.Nodes.{Nodes, Table, members, ◌∈◌, ∅, only, ◌∪◌, ◌∖◌, IsInhabited, outside}
use Rattle.fbas_model.specs.Fbas.{Fbas, HasSliceWithin, Available, IsUnmet, AreUnmet, all_nodes}

-- t holds the nodes below v that have no slice outside b, and the others outside b have one
pub record Gathered (f : Fbas) (b : Nodes) (start t : Table) (v : ℕ) : Type 0 where
  pub same_n : length t ≡ length start
  pub unmet : (k : ℕ) → k ∈ members t → (k < v) × IsUnmet f b k
  pub met : (k : ℕ) → k < v → (k ∈ members t) ⊎ (k ∈ (all_nodes f ∖ b) → HasSliceWithin f ∅ k (all_nodes f ∖ b))

pub gathered_none : (f : Fbas) (b : Nodes) (t : Table) → members t ≡ ∅ → Gathered f b t t 0
gathered_none f b t none = record {
  same_n = refl;
  unmet = λ k at. absurd (false≢true (subst (λ (s : Nodes). k ∈ s) none at));
  met = λ k low. absurd (omega arith);
}

pub gathered_put : (f : Fbas) (b : Nodes) (start t next : Table) (v : ℕ) → Gathered f b start t v → IsUnmet f b v → length next ≡ length t → members next ≡ (members t ∪ only v) → Gathered f b start next (v + 1)
gathered_put f b start t next v g u e m = record {
  same_n = e ∙ g.same_n;
  unmet = λ k at. elim (or_cases (members t k) (k == v) (subst (λ (s : Nodes). k ∈ s) m at)) [
    | inl h ↦ let p = g.unmet k h in (omega arith, p.1)
    | inr h ↦ let same = eqb-true k v h in (omega arith, subst (λ (x : ℕ). IsUnmet f b x) (sym same) u)
  ];
  met = λ k low. elim (cases_lt k v) [
    | inl h ↦ elim (g.met k h) [
      | inl here ↦ inl (subst (λ (s : Nodes). k ∈ s) (sym m) (or_left (members t k) (k == v) here))
      | inr has ↦ inr has
    ]
    | inr h ↦ inl (subst (λ (s : Nodes). k ∈ s) (sym m) (or_right (members t k) (k == v) (eq-eqb k v (omega arith))))
  ];
}

pub gathered_pass : (f : Fbas) (b : Nodes) (start t : Table) (v : ℕ) → Gathered f b start t v → (v ∈ (all_nodes f ∖ b) → HasSliceWithin f ∅ v (all_nodes f ∖ b)) → Gathered f b start t (v + 1)
gathered_pass f b start t v g has = record {
  same_n = g.same_n;
  unmet = λ k at. let p = g.unmet k at in (omega arith, p.1);
  met = λ k low. elim (cases_lt k v) [
    | inl h ↦ g.met k h
    | inr h ↦ let same : k ≡ v = omega arith in inr (subst (λ (x : ℕ). x ∈ (all_nodes f ∖ b) → HasSliceWithin f ∅ x (all_nodes f ∖ b)) (sym same) has)
  ];
}

pub outside_b : (f : Fbas) (b : Nodes) (v : ℕ) → v ∈ (all_nodes f ∖ b) → v ∈ b → ⊥
outside_b f b v at here = both_ways (b v) (not-true (b v) (and_parts (all_nodes f v) (not (b v)) at).1) here

pub unmet_node : (f : Fbas) (b : Nodes) (v : ℕ) → v < length f → b v ≡ false → (HasSliceWithin f ∅ v (all_nodes f ∖ b) → ⊥) → IsUnmet f b v
unmet_node f b v low out stuck = record { outside = and_from (all_nodes f v) (not (b v)) (lt-ltb v (length f) low) (not_from_false (b v) out); stuck = stuck }

pub gathered_all : (f : Fbas) (b : Nodes) (start t : Table) (n : ℕ) → length f ≤ n → Gathered f b start t n → AreUnmet f b (members t)
gathered_all f b start t n e g k = (
  λ at. (g.unmet k at).1,
  λ u. elim (g.met k (let low = ltb-true k (length f) (and_parts (all_nodes f k) (not (b k)) u.outside).0 in omega arith)) [
    | inl here ↦ here
    | inr has ↦ absurd (u.stuck (has u.outside))
  ],
)

-- some number below n passes the test, or none does
some_below : (n : ℕ) (p : Nodes) → ((v : ℕ) × (v < n) × v ∈ p) ⊎ ((v : ℕ) → v < n → p v ≡ false)
some_below zero p = inr (λ v low. absurd (omega arith))
some_below (suc n) p = elim (some_below n p) [
  | inl h ↦ inl (h.0, omega (arith, h.1), h.2)
  | inr none ↦ elim (cases_Bool (p n)) [
    | inl e ↦ inl (n, omega arith, e)
    | inr e ↦ inr (λ v low. elim (cases_lt v n) [ inl h ↦ none v h | inr h ↦ let same : v ≡ n = omega arith in subst (λ (x : ℕ). p x ≡ false) (sym same) e ])
  ]
]

-- where no node is unmet, there is availability
available_when_none : (f : Fbas) (b : Nodes) (start t : Table) (n : ℕ) → length f ≤ n → Gathered f b start t n → members t ≡ ∅ → Available f b
available_when_none f b start t n e g none =
    let slices : (v : ℕ) → v ∈ (all_nodes f ∖ b) → HasSliceWithin f ∅ v (all_nodes f ∖ b) = λ v at. elim (g.met v (let low = ltb-true v (length f) (and_parts (all_nodes f v) (not (b v)) at).0 in omega arith)) [
      | inl here ↦ absurd (false≢true (subst (λ (s : Nodes). v ∈ s) none here))
      | inr has ↦ has at
    ] in
    elim (some_below (length f) (outside b)) [
      | inl h ↦ inr (record {
        inhabited = (h.0, and_from (all_nodes f h.0) (not (b h.0)) (lt-ltb h.0 (length f) h.1) h.2);
        left = λ v at. and_from (all_nodes f v) true (and_parts (all_nodes f v) (not (b v)) at).0 refl;
        slices = slices;
      })
      | inr all ↦ inl (λ v at. elim (cases_Bool (b v)) [ inl e ↦ e | inr e ↦ absurd (both_ways (not (b v)) (all v (ltb-true v (length f) at)) (not_from_false (b v) e)) ])
    ]

-- where a node is, there is none
none_when_unmet : (f : Fbas) (b : Nodes) (v : ℕ) → IsUnmet f b v → Available f b → ⊥
none_when_unmet f b v u a = elim a [
  | inl all ↦ let p = and_parts (all_nodes f v) (not (b v)) u.outside in both_ways (b v) (not-true (b v) p.1) (all v p.0)
  | inr q ↦ u.stuck (q.slices v u.outside)
]

pub available_iff : (f : Fbas) (b : Nodes) (start t : Table) (n : ℕ) (empty : Bool) → length f ≤ n → Gathered f b start t n → MatchBool empty (members t ≡ ∅) (IsInhabited (members t)) → (empty ≡ true) ↔ Available f b
available_iff f b start t n true e g none = (λ h. available_when_none f b start t n e g none, λ a. refl)
available_iff f b start t n false e g some = (λ h. absurd (false≢true h), λ a. absurd (none_when_unmet f b some.0 (g.unmet some.0 some.1).1 a))
