-- The sets of a list that have no proper subset there: what is kept, and how that is found.
use Rattle.std.proofs.Common.{◌≡◌, ℕ, ◌<◌, ◌≤◌, Bool, true, false, not, if◌then◌else◌, List, [], ◌∷◌, ◌++◌, length, drop, filter, IsTrue, ◌↔◌, refl, sym, ap, ◌∙◌, subst, arith, inl, inr, Contains}
use Rattle.std.specs.List.{list_any}
use Rattle.std.proofs.lemmas.Bool.{cases_Bool, and_parts, and_from, or_left, or_right, or_cases, false≢true, false_from_ne_true, not_from_false}
use Rattle.std.proofs.lemmas.List.{append-nil, drop_all}
use Rattle.fbas_model.specs.Nodes.{Table, members, size, ◌⊆◌}
use Rattle.fbas_model.proofs.Sizes.{size_le, size_lt}
use Rattle.enumeration_journal.specs.Tests.{is_within}
use Rattle.enumeration_journal.proofs.Comparing.{within_or_not}
use Rattle.enumeration_journal.proofs.Elements.{nothing_in, first_in, later_in, cons_cases}
use Rattle.enumeration_journal.proofs.TestLaws.{within_to, within_from}
use Rattle.split_journal.specs.Minimal.{IsMinimalAmong, is_proper_part, has_proper_part, minimal_among}
use Rattle.split_journal.proofs.Able.{same_truth}

-- ---- what is kept

any_at : (p : Table → Bool) (xs : List Table) (x : Table) → Contains xs x → p x ≡ true → list_any p xs ≡ true
any_at p [] x there on = absurd (nothing_in x there)
any_at p (y ∷ ys) x there on = elim (cons_cases y ys x there) [
  | inl same ↦ or_left (p y) (list_any p ys) (ap p same ∙ on)
  | inr later ↦ or_right (p y) (list_any p ys) (any_at p ys x later on)
]

any_from : (p : Table → Bool) (xs : List Table) → list_any p xs ≡ true → (x : Table) × Contains xs x × (p x ≡ true)
any_from p [] some = absurd (false≢true some)
any_from p (y ∷ ys) some = elim (or_cases (p y) (list_any p ys) some) [
  | inl here ↦ (y, first_in y ys, here)
  | inr rest ↦ let r = any_from p ys rest in (r.0, later_in y ys r.0 r.1, r.2)
]

kept_by : (p : Table → Bool) (y x : Table) (ys : List Table) (on : Bool) → p y ≡ on → Contains (if on then y ∷ filter p ys else filter p ys) x → Contains (filter p (y ∷ ys)) x
kept_by p y x ys on is there = subst (λ (o : Bool). Contains (if o then y ∷ filter p ys else filter p ys) x) (sym is) there

pub keeps : (p : Table → Bool) (xs : List Table) (x : Table) → Contains xs x → p x ≡ true → Contains (filter p xs) x
keeps p [] x there on = absurd (nothing_in x there)
keeps p (y ∷ ys) x there on = elim (cons_cases y ys x there) [
  | inl same ↦ kept_by p y x ys true (ap p same ∙ on) (subst (λ (z : Table). Contains (y ∷ filter p ys) z) same (first_in y (filter p ys)))
  | inr later ↦ elim (cases_Bool (p y)) [
    | inl on_y ↦ kept_by p y x ys true on_y (later_in y (filter p ys) x (keeps p ys x later on))
    | inr other ↦ kept_by p y x ys false other (keeps p ys x later on)
  ]
]

from_if : (p : Table → Bool) (y x : Table) (ys : List Table) (on : Bool) → p y ≡ on → Contains (filter p (y ∷ ys)) x → Contains (if on then y ∷ filter p ys else filter p ys) x
from_if p y x ys on is there = subst (λ (o : Bool). Contains (if o then y ∷ filter p ys else filter p ys) x) is there

pub kept_from : (p : Table → Bool) (xs : List Table) (x : Table) → Contains (filter p xs) x → Contains xs x × (p x ≡ true)
kept_from p [] x there = absurd (nothing_in x there)
kept_from p (y ∷ ys) x there = elim (cases_Bool (p y)) [
  | inl on_y ↦ elim (cons_cases y (filter p ys) x (from_if p y x ys true on_y there)) [
    | inl same ↦ (subst (λ (z : Table). Contains (y ∷ ys) z) same (first_in y ys), ap p (sym same) ∙ on_y)
    | inr later ↦ let r = kept_from p ys x later in (later_in y ys x r.0, r.1)
  ]
  | inr other ↦ let r = kept_from p ys x (from_if p y x ys false other there) in (later_in y ys x r.0, r.1)
]

pub minimal_has : (sets : List Table) (s : Table) → Contains (minimal_among sets) s → IsMinimalAmong sets s
minimal_has sets s there =
    let r = kept_from (λ x. not (has_proper_part sets x)) sets s there in (
      r.0,
      λ t in_sets inside. elim (cases_Bool (is_within s t)) [
        | inl back ↦ within_to s t back
        | inr out ↦ absurd (false≢true (sym (ap not (any_at (is_proper_part s) sets t in_sets (and_from (is_within t s) (not (is_within s t)) (within_from t s inside) (not_from_false (is_within s t) out)))) ∙ r.1))
      ],
    )

pub minimal_is : (sets : List Table) (s : Table) → IsMinimalAmong sets s → Contains (minimal_among sets) s
minimal_is sets s least = keeps (λ x. not (has_proper_part sets x)) sets s least.0 (not_from_false (list_any (is_proper_part s) sets) (false_from_ne_true (list_any (is_proper_part s) sets) (λ some.
    let r = any_from (is_proper_part s) sets some in
    let parts = and_parts (is_within r.0 s) (not (is_within s r.0)) r.2 in
    let back = within_from s r.0 (least.1 r.0 r.1 (within_to r.0 s parts.0)) in
    false≢true (sym (ap not back) ∙ parts.1))))

pub minimal_exact : (sets items : List Table) → items ≡ minimal_among sets → (s : Table) → Contains items s ↔ IsMinimalAmong sets s
minimal_exact sets items is s = (λ there. minimal_has sets s (subst (λ (xs : List Table). Contains xs s) is there), λ least. subst (λ (xs : List Table). Contains xs s) (sym is) (minimal_is sets s least))

-- ---- a proper subset has fewer members

smaller : (t s : Table) → length t ≡ length s → is_within t s ≡ true → is_within s t ≡ false → size t < size s
smaller t s same inside out = elim (within_or_not s t) [
  | inl back ↦ absurd (false≢true (sym out ∙ within_from s t back))
  | inr lacks ↦ size_lt t s lacks.0 same (within_to t s inside) lacks.1 (λ has. false≢true (sym lacks.2 ∙ has))
]

not_back : (t s : Table) → length t ≡ length s → size t < size s → not (is_within s t) ≡ true
not_back t s same fewer = not_from_false (is_within s t) (false_from_ne_true (is_within s t) (λ back. let most = size_le s t (sym same) (within_to s t back) in absurd (omega arith)))

-- a smaller set that lies inside is a proper subset, and no other is
pub proper_smaller : (t s : Table) (inside : Bool) → length t ≡ length s → size t < size s → (IsTrue inside ↔ (members t ⊆ members s)) → inside ≡ is_proper_part s t
proper_smaller t s inside same fewer iff = same_truth inside (is_proper_part s t)
    (λ h. and_from (is_within t s) (not (is_within s t)) (within_from t s (iff.0 h)) (not_back t s same fewer))
    (λ h. iff.1 (within_to t s (and_parts (is_within t s) (not (is_within s t)) h).0))

pub no_smaller : (t s : Table) → length t ≡ length s → (size t < size s → ⊥) → false ≡ is_proper_part s t
no_smaller t s same many = same_truth false (is_proper_part s t) (λ h. absurd (false≢true h))
    (λ h. let parts = and_parts (is_within t s) (not (is_within s t)) h in absurd (many (smaller t s same parts.0 (out (is_within s t) parts.1))))
  where
    out : (b : Bool) → not b ≡ true → b ≡ false
    out true h = absurd (false≢true h)
    out false h = refl

-- ---- the end of the list

pub kept_all : (p : Table → Bool) (xs kept items : List Table) (i : ℕ) → length xs ≤ i → kept ++ filter p (drop i xs) ≡ items → kept ≡ items
kept_all p xs kept items i past was = sym (append-nil kept) ∙ (ap (λ (ys : List Table). kept ++ filter p ys) (sym (drop_all i xs past)) ∙ was)
