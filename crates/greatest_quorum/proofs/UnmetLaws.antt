-- The unmet nodes by counting are those without a slice outside the set.
use Rattle.std.proofs.Common.{◌≡◌, ℕ, zero, suc, ◌+◌, ◌<◌, ◌⊎◌, ◌↔◌, inl, inr, Bool, true, false, not, IsTrue, [], ◌∷◌, length, Option, Some, None, slice_get, slice_index_or, refl, sym, ◌∙◌, ap, subst, arith}
use Rattle.std.proofs.Math.Bool.{or-false}
use Rattle.std.proofs.lemmas.Bool.{and_parts, and_from, not_from_false, not-true, both_ways, cases_Bool, lt-ltb, ltb-true}
use Rattle.std.proofs.lemmas.List.{get_or_default}
use Rattle.fbas_model.specs.Nodes.{Nodes, Table, members, ◌∈◌, ∅, ◌∪◌, ◌∖◌, IsInhabited}
use Rattle.fbas_model.specs.Trees.{QuorumSet}
use Rattle.fbas_model.specs.QuorumSets.{HasChoiceWithin}
use Rattle.fbas_model.specs.Fbas.{Fbas, HasSliceWithin, Available, IsUnmet, AreUnmet, all_nodes}
use Rattle.fbas_model.specs.Counting.{is_satisfied_if_any, is_inhabited}
use Rattle.fbas_model.proofs.Counting.{choice_satisfied, satisfied_choice}
use Rattle.fbas_model.proofs.Slices.{no_slice, slice_iff, at_place}
use Rattle.fbas_model.proofs.Sizes.{member_lt}
use Rattle.fbas_model.proofs.Tables.{length-table_from, members-table_from, table_is}
use Rattle.greatest_quorum.specs.Unmet.{is_unmet, unmet_of, is_available}
use Rattle.greatest_quorum.proofs.Availability.{Gathered, available_iff}

-- ---- slices by counting

no_more : (u : Nodes) → (u ∪ ∅) ≡ u
no_more u = λ i v. or-false (u v) i

has_slice : (f : Fbas) (u : Nodes) (v : ℕ) (o : Option QuorumSet) → slice_get f v ≡ Some o → v ∈ u → is_satisfied_if_any u o ≡ true → HasSliceWithin f ∅ v u
has_slice f u v None at here h = absurd cc
has_slice f u v (Some d) at here h =
    let choice = satisfied_choice u d h in
    (slice_iff f ∅ u v d at (subst (λ (s : Nodes). v ∈ s) (sym (no_more u)) here)).0 (subst (λ (s : Nodes). HasChoiceWithin d s) (sym (no_more u)) choice)

is_satisfied_there : (f : Fbas) (u : Nodes) (v : ℕ) (o : Option QuorumSet) → slice_get f v ≡ Some o → v ∈ u → HasSliceWithin f ∅ v u → is_satisfied_if_any u o ≡ true
is_satisfied_there f u v None at here h = absurd (no_slice f ∅ u v at h)
is_satisfied_there f u v (Some d) at here h =
    let choice = (slice_iff f ∅ u v d at (subst (λ (s : Nodes). v ∈ s) (sym (no_more u)) here)).1 h in
    let inside = subst (λ (s : Nodes). HasChoiceWithin d s) (no_more u) choice in
    choice_satisfied u inside.1 inside.2

-- ---- one node

own_at : (f : Fbas) (v : ℕ) → v < length f → slice_get f v ≡ Some (slice_index_or f v None)
own_at f v low = at_place f v (slice_index_or f v None) low (sym (get_or_default f v (slice_index_or f v None) None low))

module _ (f : Fbas) (b : Table) (v : ℕ) (low : v < length f) where
  abbrev left : Nodes
  left = all_nodes f ∖ members b

  abbrev own : Option QuorumSet
  own = slice_index_or f v None

  pub unmet_to : is_unmet f b v ≡ true → IsUnmet f (members b) v
  unmet_to h =
      let p = and_parts (not (members b v)) (not (is_satisfied_if_any left own)) h in
      let here : v ∈ left = and_from (all_nodes f v) (not (members b v)) (lt-ltb v (length f) low) p.0 in
      record {
        outside = here;
        stuck = λ slice. both_ways (is_satisfied_if_any left own) (not-true (is_satisfied_if_any left own) p.1) (is_satisfied_there f left v own (own_at f v low) here slice);
      }

  pub unmet_from : IsUnmet f (members b) v → is_unmet f b v ≡ true
  unmet_from u =
      let p = and_parts (all_nodes f v) (not (members b v)) u.outside in
      and_from (not (members b v)) (not (is_satisfied_if_any left own)) p.1 (elim (cases_Bool (is_satisfied_if_any left own)) [
        | inl e ↦ absurd (u.stuck (has_slice f left v own (own_at f v low) u.outside e))
        | inr e ↦ not_from_false (is_satisfied_if_any left own) e
      ])

-- ---- all of them

pub length-unmet_of : (f : Fbas) (b : Table) → length (unmet_of f b) ≡ length f
unfolding unmet_of
length-unmet_of f b = length-table_from 0 (length f) (is_unmet f b)

unmet_at : (f : Fbas) (b : Table) (v : ℕ) → v < length f → members (unmet_of f b) v ≡ is_unmet f b v
unfolding unmet_of
unmet_at f b v low = let start : 0 + v ≡ v = omega arith in members-table_from 0 (length f) (is_unmet f b) v low ∙ ap (is_unmet f b) start

outside_below : (f : Fbas) (b : Nodes) (v : ℕ) → IsUnmet f b v → v < length f
outside_below f b v u = ltb-true v (length f) (and_parts (all_nodes f v) (not (b v)) u.outside).0

pub unmet_is : (f : Fbas) (b : Table) → AreUnmet f (members b) (members (unmet_of f b))
unmet_is f b v = (
  λ here.
      let low : v < length f = let l = member_lt (unmet_of f b) v here in omega (arith, l, length-unmet_of f b) in
      unmet_to f b v low (sym (unmet_at f b v low) ∙ here),
  λ u. let low = outside_below f (members b) v u in unmet_at f b v low ∙ unmet_from f b v low u,
)

same_tests : (x y : Bool) → (x ≡ true → y ≡ true) → (y ≡ true → x ≡ true) → x ≡ y
same_tests true y there back = sym (there refl)
same_tests false true there back = back refl
same_tests false false there back = refl

pub unmet_only : (f : Fbas) (b t : Table) → length t ≡ length f → AreUnmet f (members b) (members t) → t ≡ unmet_of f b
unfolding unmet_of
unmet_only f b t size are = table_is (length f) t (is_unmet f b) size (λ v low. same_tests (members t v) (is_unmet f b v) (λ h. unmet_from f b v low ((are v).0 h)) (λ h. (are v).1 (unmet_to f b v low h)))

-- ---- availability

-- a table has a member, or stands for no node
some_or_none : (t : Table) → ((is_inhabited t ≡ true) × IsInhabited (members t)) ⊎ ((is_inhabited t ≡ false) × ((v : ℕ) → members t v ≡ false))
some_or_none [] = inr (refl, λ v. refl)
some_or_none (true ∷ t) = inl (refl, (0, refl))
some_or_none (false ∷ t) = elim (some_or_none t) [
  | inl h ↦ inl (h.0, (suc h.1.0, h.1.1))
  | inr h ↦ inr (h.0, none_more h.1)
]
  where
    none_more : ((v : ℕ) → members t v ≡ false) → (v : ℕ) → members (false ∷ t) v ≡ false
    none_more h zero = refl
    none_more h (suc v) = h v

gathered : (f : Fbas) (b : Table) → Gathered f (members b) (unmet_of f b) (unmet_of f b) (length f)
gathered f b = record {
  same_n = refl;
  unmet = λ v here. let u = (unmet_is f b v).0 here in (outside_below f (members b) v u, u);
  met = λ v low. elim (cases_Bool (members (unmet_of f b) v)) [
    | inl e ↦ inl e
    | inr e ↦ inr (λ here. elim (cases_Bool (is_satisfied_if_any (all_nodes f ∖ members b) (slice_index_or f v None))) [
      | inl has ↦ has_slice f (all_nodes f ∖ members b) v (slice_index_or f v None) (own_at f v low) here has
      | inr lacks ↦ absurd (both_ways (members (unmet_of f b) v) e (unmet_at f b v low ∙ and_from (not (members b v)) (not (is_satisfied_if_any (all_nodes f ∖ members b) (slice_index_or f v None))) (and_parts (all_nodes f v) (not (members b v)) here).1 (not_from_false (is_satisfied_if_any (all_nodes f ∖ members b) (slice_index_or f v None)) lacks)))
    ])
  ];
}

pub available_counted : (f : Fbas) (b : Table) → IsTrue (is_available f b) ↔ Available f (members b)
available_counted f b = elim (some_or_none (unmet_of f b)) [
  | inl h ↦
      let is = available_iff f (members b) (unmet_of f b) (unmet_of f b) (length f) false (omega arith) (gathered f b) h.1 in
      let no : is_available f b ≡ false = ap not h.0 in
      subst (λ (x : Bool). IsTrue x ↔ Available f (members b)) (sym no) is
  | inr h ↦
      let is = available_iff f (members b) (unmet_of f b) (unmet_of f b) (length f) true (omega arith) (gathered f b) (λ i v. h.1 v i) in
      let yes : is_available f b ≡ true = ap not h.0 in
      subst (λ (x : Bool). IsTrue x ↔ Available f (members b)) (sym yes) is
]

-- the answer is the counted one
pub same_answer : (f : Fbas) (b : Table) (answer : Bool) → IsTrue answer ↔ Available f (members b) → answer ≡ is_available f b
same_answer f b answer is = same_tests answer (is_available f b) (λ h. (available_counted f b).1 (is.0 h)) (λ h. is.1 ((available_counted f b).0 h))
