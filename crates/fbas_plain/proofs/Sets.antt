-- Trying every set of nodes, node by node, and what is left of a system.
use Rattle.std.proofs.Common.{◌≡◌, ℕ, ◌+◌, ◌<◌, ◌≤◌, ◌↔◌, Bool, true, false, not, ◌&&◌, ◌||◌, ◌==◌, IsTrue, nat_lt, length, inl, inr, refl, sym, ◌∙◌, ap, subst, arith}
use Rattle.std.proofs.lemmas.Bool.{cases_Bool, cases_lt, and_parts, and_from, false_from_ne_true, false≢true, both_ways, ltb-true, eq-eqb, eqb-true, not-true, not_from_false}
use Rattle.std.proofs.lemmas.List.{get_or_past}
use Rattle.std.proofs.Math.Bool.{and-true, and-false, or-true, or-false}
use borrow.Author.Count.{below_more}
use mathlib.Core.Path.{fun_ext}
use Rattle.fbas_model.specs.Nodes.{Nodes, Table, members, ◌∈◌, ∅, only, ◌∪◌, ◌∖◌, IsInhabited}
use Rattle.fbas_model.specs.Fbas.{Fbas, all_nodes, Quorum, Available}
use Rattle.fbas_plain.specs.Plain.{AgreeBelow}

agree_less : (v : ℕ) (s t : Nodes) → AgreeBelow (v + 1) s t → AgreeBelow v s t
agree_less v s t a w h = a w (omega arith)

agree_through : (v : ℕ) (s t u : Nodes) → AgreeBelow v s t → AgreeBelow v t u → AgreeBelow v s u
agree_through v s t u a b w h = a w h ∙ b w h

apart : (v w : ℕ) → w < v → (w == v) ≡ false
apart v w h = false_from_ne_true (w == v) (λ e. let same = eqb-true w v e in absurd (omega arith))

agree_without : (v : ℕ) (s t : Nodes) → t ≡ (s ∖ only v) → AgreeBelow v s t
agree_without v s t e w h = sym (ap (λ (t : Nodes). t w) e ∙ (ap (λ b. s w && not b) (apart v w h) ∙ and-true (s w)))

pub agree_with : (v : ℕ) (s t : Nodes) → t ≡ (s ∪ only v) → AgreeBelow v s t
agree_with v s t e w h = sym (ap (λ (t : Nodes). t w) e ∙ (ap (λ b. s w || b) (apart v w h) ∙ or-false (s w)))

without_at : (v : ℕ) (s t : Nodes) → t ≡ (s ∖ only v) → t v ≡ false
without_at v s t e = ap (λ (t : Nodes). t v) e ∙ (ap (λ b. s v && not b) (eq-eqb v v refl) ∙ and-false (s v))

with_at : (v : ℕ) (s t : Nodes) → t ≡ (s ∪ only v) → t v ≡ true
with_at v s t e = ap (λ (t : Nodes). t v) e ∙ (ap (λ b. s v || b) (eq-eqb v v refl) ∙ or-true (s v))

-- the sets from v on are those without v and those with it
both_tried : (P : Nodes → Type 0) (v : ℕ) (s a b : Nodes) → AgreeBelow v s a → AgreeBelow v s b → a v ≡ false → b v ≡ true → ((u : Nodes) → AgreeBelow (v + 1) a u → P u) → ((u : Nodes) → AgreeBelow (v + 1) b u → P u) → (u : Nodes) → AgreeBelow v s u → P u
both_tried P v s a b p q off on without with u agree = elim (cases_Bool (u v)) [
  | inl e ↦ with u (below_more (λ w. b w ≡ u w) v (λ w h. sym (q w h) ∙ agree w h) (on ∙ sym e))
  | inr e ↦ without u (below_more (λ w. a w ≡ u w) v (λ w h. sym (p w h) ∙ agree w h) (off ∙ sym e))
]

-- what the sets from u without v leave agrees with u
pub kept_without : (v : ℕ) (start without left : Table) → members without ≡ (members start ∖ only v) → AgreeBelow (v + 1) (members without) (members left) → AgreeBelow v (members start) (members left)
kept_without v start without left taken kept =
    agree_through v (members start) (members without) (members left) (agree_without v (members start) (members without) taken) (agree_less v (members without) (members left) kept)

-- u without v, what the sets from it leave, that with v, and what those leave
module _ (P : Nodes → Type 0) (v : ℕ) (start without left with after : Table) (taken : members without ≡ (members start ∖ only v)) (kept : AgreeBelow (v + 1) (members without) (members left)) (put : members with ≡ (members left ∪ only v)) where
  to_left : AgreeBelow v (members start) (members left)
  to_left = kept_without v start without left taken kept

  to_with : AgreeBelow v (members start) (members with)
  to_with = agree_through v (members start) (members left) (members with) to_left (agree_with v (members left) (members with) put)

  pub kept_through : AgreeBelow (v + 1) (members with) (members after) → AgreeBelow v (members start) (members after)
  kept_through a = agree_through v (members start) (members with) (members after) to_with (agree_less v (members with) (members after) a)

  pub tried_both : (r t : Bool) → r ≡ true → (IsTrue r ↔ ((u : Nodes) → AgreeBelow (v + 1) (members without) u → P u)) → (IsTrue t ↔ ((u : Nodes) → AgreeBelow (v + 1) (members with) u → P u)) → IsTrue t ↔ ((u : Nodes) → AgreeBelow v (members start) u → P u)
  tried_both r t e first second = (
    λ h. both_tried P v (members start) (members without) (members with) (agree_without v (members start) (members without) taken) to_with (without_at v (members start) (members without) taken) (with_at v (members left) (members with) put) (first.0 e) (second.0 h),
    λ h. second.1 (λ u a. h u (agree_through v (members start) (members with) u to_with (agree_less v (members with) u a))),
  )

-- a set without v fails already
pub failed_without : (P : Nodes → Type 0) (v : ℕ) (start without : Table) → members without ≡ (members start ∖ only v) → (r : Bool) → r ≡ false → (IsTrue r ↔ ((u : Nodes) → AgreeBelow (v + 1) (members without) u → P u)) → IsTrue false ↔ ((u : Nodes) → AgreeBelow v (members start) u → P u)
failed_without P v start without taken r e says = (
  λ t. absurd (false≢true t),
  λ h. absurd (both_ways r e (says.1 (λ u a. h u (agree_through v (members start) (members without) u (agree_without v (members start) (members without) taken) (agree_less v (members without) u a))))),
)

not_a_node : (f : Fbas) (b u : Nodes) (w : ℕ) → length f ≤ w → Quorum f b u → u w ≡ false
not_a_node f b u w h q = false_from_ne_true (u w) (λ at. let low = ltb-true w (length f) (and_parts (all_nodes f w) (not (b w)) (q.left w at)).0 in absurd (omega arith))

-- a quorum that agrees with a table at all nodes is the table's set
same_set : (f : Fbas) (b u : Nodes) (c : Table) (v : ℕ) → length c ≡ length f → v ≡ length f → AgreeBelow v (members c) u → Quorum f b u → members c ≡ u
same_set f b u c v e n agree q = fun_ext (λ w. elim (cases_lt w v) [
  | inl low ↦ agree w low
  | inr high ↦ get_or_past c w false (omega arith) ∙ sym (not_a_node f b u w (omega arith) q)
])

pub all_chosen : (P : Nodes → Type 0) (f : Fbas) (b : Nodes) (c : Table) (v : ℕ) (t : Bool) → length c ≡ length f → v ≡ length f → (IsTrue t ↔ (Quorum f b (members c) → P (members c))) → IsTrue t ↔ ((u : Nodes) → AgreeBelow v (members c) u → Quorum f b u → P u)
all_chosen P f b c v t e n says = (
  λ h u agree q. let same = same_set f b u c v e n agree q in subst P same (says.0 h (subst (λ (s : Nodes). Quorum f b s) (sym same) q)),
  λ h. says.1 (λ q. h (members c) (λ w low. refl) q),
)

-- what is left of all nodes
rest_is : (f : Fbas) (b : Nodes) (n : ℕ) (all rest : Nodes) → n ≡ length f → all ≡ (λ v. nat_lt v n) → rest ≡ (all ∖ b) → rest ≡ (all_nodes f ∖ b)
rest_is f b n all rest e a m = m ∙ ap (λ (t : Nodes). t ∖ b) (a ∙ ap {B = Nodes} (λ n v. nat_lt v n) e)

-- the same where the set of all nodes is an empty one that was filled
pub left_is : (f : Fbas) (b none cleared copied filled left : Table) → none ≡ b → length cleared ≡ length none → copied ≡ cleared → length b ≡ length f → members filled ≡ (λ v. nat_lt v (length copied)) → members left ≡ (members filled ∖ members b)
    → members left ≡ (all_nodes f ∖ members b)
left_is f b none cleared copied filled left n c p same all rest =
    rest_is f (members b) (length copied) (members filled) (members left) (ap (λ (t : Table). length t) p ∙ c ∙ ap (λ (t : Table). length t) n ∙ same) all rest

pub available_none : (f : Fbas) (b rest : Nodes) → rest ≡ (all_nodes f ∖ b) → rest ≡ ∅ → Available f b
available_none f b rest e none = inl (λ v at. elim (cases_Bool (b v)) [
  | inl in_b ↦ in_b
  | inr out ↦ absurd (false≢true (sym (ap (λ (s : Nodes). s v) none) ∙ (ap (λ (s : Nodes). s v) e ∙ and_from (all_nodes f v) (not (b v)) at (not_from_false (b v) out))))
])

pub available_iff : (f : Fbas) (b rest empty : Nodes) (t : Bool) → rest ≡ (all_nodes f ∖ b) → empty ≡ ∅ → IsInhabited rest → (IsTrue t ↔ Quorum f empty rest) → IsTrue t ↔ Available f b
available_iff f b rest empty t e n some says = (
  λ h. inr (subst (λ (s : Nodes). Quorum f s (all_nodes f ∖ b)) n (subst (λ (s : Nodes). Quorum f empty s) e (says.0 h))),
  λ a. elim a [
    | inl all ↦
        let parts = and_parts (all_nodes f some.0) (not (b some.0)) (subst (λ (s : Nodes). some.0 ∈ s) e some.1) in
        absurd (both_ways (b some.0) (not-true (b some.0) parts.1) (all some.0 parts.0))
    | inr q ↦ says.1 (subst (λ (s : Nodes). Quorum f s rest) (sym n) (subst (λ (s : Nodes). Quorum f ∅ s) (sym e) q))
  ],
)
