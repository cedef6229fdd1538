-- Whether one set lies inside another, and whether a list has a set: both are decided.
use Rattle.std.proofs.Common.{◌≡◌, ℕ, zero, suc, ◌<◌, Bool, true, false, not, ◌&&◌, List, [], ◌∷◌, length, refl, sym, ap, ◌∙◌, subst, arith, inl, inr, ◌⊎◌, ⊎_elim, Contains}
use Rattle.std.proofs.lemmas.Bool.{and_parts, and_from, cases_Bool, cases_lt, both_ways, false≢true, false_from_ne_true}
use Rattle.fbas_model.specs.Nodes.{Table, members, ◌⊆◌}
use Rattle.fbas_model.proofs.Sizes.{member_lt}
use Rattle.enumeration_journal.proofs.Elements.{nothing_in, first_in, later_in, cons_cases}

-- no number below n passes the test, or one does
pub search_below : (p : ℕ → Bool) (n : ℕ) → ((v : ℕ) → v < n → p v ≡ false) ⊎ ((w : ℕ) × (p w ≡ true))
search_below p zero = inl (λ v h. absurd (omega arith))
search_below p (suc n) = elim (cases_Bool (p n)) [
  | inl e ↦ inr (n, e)
  | inr e ↦ elim (search_below p n) [
    | inl none ↦ inl (λ v h. elim (cases_lt v n) [
      | inl low ↦ none v low
      | inr high ↦ let same : n ≡ v = omega arith in subst (λ (x : ℕ). p x ≡ false) same e
    ])
    | inr some ↦ inr some
  ]
]

-- a set lies inside another, or has a node that the other lacks
pub within_or_not : (s t : Table) → (members s ⊆ members t) ⊎ ((w : ℕ) × (members s w ≡ true) × (members t w ≡ false))
within_or_not s t = elim (search_below (λ v. members s v && not (members t v)) (length s)) [
  | inl none ↦ inl (λ v here. elim (cases_Bool (members t v)) [
    | inl inside_too ↦ inside_too
    | inr absent ↦ absurd (both_ways (members s v && not (members t v)) (none v (member_lt s v here)) (and_from (members s v) (not (members t v)) here (ap not absent)))
  ])
  | inr some ↦ let parts = and_parts (members s some.0) (not (members t some.0)) some.1 in inr (some.0, parts.0, false_from_ne_true (members t some.0) (λ inside_too. false≢true (ap not (sym inside_too) ∙ parts.1)))
]

same_mark : (x y : Bool) → (x ≡ y) ⊎ (x ≡ y → ⊥)
same_mark true true = inl refl
same_mark true false = inr (λ e. cc)
same_mark false true = inr (λ e. cc)
same_mark false false = inl refl

pub same_table : (s t : Table) → (s ≡ t) ⊎ (s ≡ t → ⊥)
same_table [] [] = inl refl
same_table [] (y ∷ ys) = inr (λ e. cc)
same_table (x ∷ xs) [] = inr (λ e. cc)
same_table (x ∷ xs) (y ∷ ys) = elim (same_mark x y) [
  | inl first ↦ elim (same_table xs ys) [
    | inl rest ↦ inl (cc)
    | inr other ↦ inr (λ e. other (cc))
  ]
  | inr other ↦ inr (λ e. other (cc))
]

pub contains_or_not : (xs : List Table) (t : Table) → Contains xs t ⊎ (Contains xs t → ⊥)
contains_or_not [] t = inr (nothing_in t)
contains_or_not (x ∷ xs) t = elim (same_table x t) [
  | inl e ↦ inl (subst (λ (y : Table). Contains (x ∷ xs) y) e (first_in x xs))
  | inr other ↦ elim (contains_or_not xs t) [
    | inl there ↦ inl (later_in x xs t there)
    | inr absent ↦ inr (λ c. ⊎_elim other absent (cons_cases x xs t c))
  ]
]
