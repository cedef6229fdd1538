-- What sorting a list of names and taking out the repeated ones leaves.
use Rattle.std.proofs.Common.{◌≡◌, ℕ, zero, suc, ◌+◌, ◌-◌, ◌/◌, ◌<◌, Bool, List, [], ◌∷◌, length, map, refl, sym, ◌∙◌, ap, subst, arith, eqb, Contains, Less, Equal, Greater, Some, slice_get, ◌⊎◌, inl, inr, slice_index_or, ◌≤◌}
use Rattle.std.specs.Prelude.{IsPermutation, IsSorted}
use Rattle.std.specs.List.{dedup, AllByRecursion}
use Rattle.std.specs.List.Sorted.{IsStrictlySortedBy}
use Rattle.std.specs.Cmp.{on_equiv, on_total}
use Rattle.std.specs.Cmp.Lexicographic.{pointwise}
use Rattle.std.proofs.lemmas.Cmp.{nat_list_cmp_total, nat_list_eq_equiv}
use Rattle.std.proofs.lemmas.Map.Text.{is_eq-slice_cmp}
use Rattle.std.proofs.lemmas.Slice.Eq.{bytes_eq-Decides}
use Rattle.std.proofs.lemmas.List.Kept.{IsStrictlySortedBy-dedup, Any-dedup, Contains-from_dedup}
use Rattle.std.proofs.lemmas.List.Sorted.{Contains-permutation}
use Rattle.std.proofs.lemmas.Cmp.{tied_itself}
use Rattle.std.proofs.lemmas.Bool.{cases_lt}
use Rattle.std.proofs.lemmas.Option.{slice_get-get_or}
use Rattle.std.proofs.lemmas.List.{get_or_default, get_or-map, length-map}
use Rattle.std.proofs.lemmas.Map.Keys.{Less-from_sorted}
use Rattle.std.specs.FinMap.{slice_cmp-IsAntisymmetric, nat_cmp-IsAntisymmetric}
use Rattle.std.specs.Ordering.{ordering_reverse}
use Rattle.std.specs.declared.cmp.Ordering.{Ordering}
use borrow.Author.Count.{below_more}
use Rattle.fbas_model.specs.Names.{name_cmp, AreNamesOf}

module _ {X : Type 0} (text : X → List ℕ) where
  abbrev pub by_text : X → X → Rattle.std.specs.declared.cmp.Ordering.Ordering
  by_text x y = name_cmp (text x) (text y)

  abbrev pub same_text : X → X → Bool
  same_text x y = pointwise eqb (text x) (text y)

  all_texts : (P : List ℕ → Type 0) (xs : List X) → AllByRecursion (λ x. P (text x)) xs → AllByRecursion P (map text xs)
  all_texts P [] h = h
  all_texts P (x ∷ xs) h = (h.0, all_texts P xs h.1)

  sorted_texts : (xs : List X) → IsStrictlySortedBy by_text xs → IsStrictlySortedBy name_cmp (map text xs)
  unfolding IsStrictlySortedBy
  sorted_texts [] h = h
  sorted_texts (x ∷ xs) h = (all_texts (λ y. name_cmp (text x) y ≡ Less) xs h.0, sorted_texts xs h.1)

  Contains-text : (xs : List X) (x : X) → Contains xs x → Contains (map text xs) (text x)
  Contains-text [] x h = absurd (omega arith)
  Contains-text (y ∷ xs) x (zero, low, at) = (0, omega arith, ap text at)
  Contains-text (y ∷ xs) x (suc k, low, at) = let h = Contains-text xs x (k, omega arith, at) in (suc h.0, omega arith, h.2)

  Contains-from_text : (xs : List X) (name : List ℕ) → Contains (map text xs) name → (x : X) × Contains xs x × (text x ≡ name)
  Contains-from_text [] name h = absurd (omega arith)
  Contains-from_text (y ∷ xs) name (zero, low, at) = (y, (0, omega arith, refl), at)
  Contains-from_text (y ∷ xs) name (suc k, low, at) = let h = Contains-from_text xs name (k, omega arith, at) in (h.0, (suc h.1.0, omega arith, h.1.2), h.2)

  pub names_of : (given sorted : List X) → IsPermutation given sorted → IsPermutation sorted given → IsSorted by_text sorted → AreNamesOf (map text given) (map text (dedup same_text sorted))
  names_of given sorted there back ordered = record {
    sorted = sorted_texts (dedup same_text sorted) (IsStrictlySortedBy-dedup (on_total text nat_list_cmp_total) (λ x y. sym (is_eq-slice_cmp (text x) (text y))) sorted ordered);
    same = λ name. (
      λ h.
          let x = Contains-from_text (dedup same_text sorted) name h in
          subst (λ (n : List ℕ). Contains (map text given) n) x.2 (Contains-text given x.0 (Contains-permutation sorted given x.0 back (Contains-from_dedup same_text sorted x.0 x.1))),
      λ h.
          let x = Contains-from_text given name h in
          let y = Any-dedup (on_equiv text nat_list_eq_equiv) sorted x.0 (Contains-permutation given sorted x.0 there x.1) in
          subst (λ (n : List ℕ). Contains (map text (dedup same_text sorted)) n) (sym ((bytes_eq-Decides (text x.0) (text y.1)).0 y.4) ∙ x.2) (Contains-text (dedup same_text sorted) y.1 (y.0, y.2, y.3)),
    );
  }

-- the name stands, if at all, from low up to high
pub record Between (names : List (List ℕ)) (name : List ℕ) (low high : ℕ) : Type 0 where
  pub fits : high ≤ length names
  pub below : (k : ℕ) → k < low → name_cmp (slice_index_or names k []) name ≡ Less
  pub above : (k : ℕ) → high ≤ k → k < length names → name_cmp (slice_index_or names k []) name ≡ Greater

module _ (names : List (List ℕ)) (sorted : IsStrictlySortedBy name_cmp names) (name : List ℕ) (low high m : ℕ) (all : Between names name low high) (at_low : low ≤ m) (at_high : m < high) where
  raised : name_cmp (slice_index_or names m []) name ≡ Less → Between names name (m + 1) high
  raised less = record {
    fits = all.fits;
    below = below_more (λ (k : ℕ). name_cmp (slice_index_or names k []) name ≡ Less) m (λ k h. nat_list_cmp_total.trans (slice_index_or names k []) (slice_index_or names m []) name (Less-from_sorted name_cmp names k m [] sorted h (let f = all.fits in omega arith)) less) less;
    above = all.above;
  }

  after : name_cmp (slice_index_or names m []) name ≡ Greater → (k : ℕ) → k < length names → (m < k) ⊎ (k ≤ m) → m ≤ k → name_cmp (slice_index_or names k []) name ≡ Greater
  after greater k h (inl later) g =
      let back : name_cmp name (slice_index_or names m []) ≡ Less = nat_list_cmp_total.antisymm name (slice_index_or names m []) ∙ ap ordering_reverse greater in
      nat_list_cmp_total.antisymm (slice_index_or names k []) name ∙ ap ordering_reverse (nat_list_cmp_total.trans name (slice_index_or names m []) (slice_index_or names k []) back (Less-from_sorted name_cmp names m k [] sorted later h))
  after greater k h (inr same) g = let e : m ≡ k = omega arith in subst (λ (k : ℕ). name_cmp (slice_index_or names k []) name ≡ Greater) e greater

  lowered : name_cmp (slice_index_or names m []) name ≡ Greater → Between names name low m
  lowered greater = record {
    fits = let f = all.fits in omega arith;
    below = all.below;
    above = λ k g h. after greater k h (cases_lt m k) g;
  }

  found : name_cmp (slice_index_or names m []) name ≡ Equal → slice_get names m ≡ Some name
  found equal = slice_get-get_or names m [] (let f = all.fits in omega arith) ∙ ap Some (slice_cmp-IsAntisymmetric nat_cmp-IsAntisymmetric (slice_index_or names m []) name equal)

pub nowhere : (names : List (List ℕ)) (name : List ℕ) (low high : ℕ) → Between names name low high → high ≤ low → Contains names name → ⊥
nowhere names name low high all h (k, within, at) =
    let here : slice_index_or names k [] ≡ name = get_or_default names k [] name within ∙ at in
    let tie = tied_itself nat_list_cmp_total name in
    elim (cases_lt k low) [
      | inl g ↦ let less = subst (λ (x : List ℕ). name_cmp x name ≡ Less) here (all.below k g) in cc
      | inr g ↦ let greater = subst (λ (x : List ℕ). name_cmp x name ≡ Greater) here (all.above k (omega arith) within) in cc
    ]

-- what the comparison at a place says of the name there
probed : {X : Type 0} (text : X → List ℕ) (xs : List X) (m : ℕ) (x : X) (bytes name : List ℕ) (r : Ordering) → m < length xs → x ≡ slice_index_or xs m x → bytes ≡ text x → r ≡ name_cmp bytes name → name_cmp (slice_index_or (map text xs) m []) name ≡ r
probed text xs m x bytes name r h e b c = ap (λ (n : List ℕ). name_cmp n name) (get_or-map text xs m x [] h ∙ (ap text (sym e) ∙ sym b)) ∙ sym c

-- the search looks at the middle of what is left
module _ {X : Type 0} (text : X → List ℕ) (xs : List X) (sorted : IsStrictlySortedBy name_cmp (map text xs)) (name : List ℕ) (low high : ℕ) (all : Between (map text xs) name low high) (some : low < high) (x : X) (bytes : List ℕ) (r : Ordering) (e : x ≡ slice_index_or xs (low + (high - low) / 2) x) (b : bytes ≡ text x) (c : r ≡ name_cmp bytes name) where
  abbrev middle : ℕ
  middle = low + (high - low) / 2

  pub within_middle : middle < length (map text xs)
  within_middle = let f = all.fits in omega arith

  says : name_cmp (slice_index_or (map text xs) middle []) name ≡ r
  says = probed text xs middle x bytes name r (omega (arith, length-map xs text, within_middle)) e b c

  pub raised_middle : r ≡ Less → Between (map text xs) name (middle + 1) high
  raised_middle is = raised (map text xs) sorted name low high middle all (omega arith) (omega arith) (says ∙ is)

  pub lowered_middle : r ≡ Greater → Between (map text xs) name low middle
  lowered_middle is = lowered (map text xs) sorted name low high middle all (omega arith) (omega arith) (says ∙ is)

  pub found_middle : r ≡ Equal → slice_get (map text xs) middle ≡ Some name
  found_middle is = found (map text xs) sorted name low high middle all (omega arith) (omega arith) (says ∙ is)
