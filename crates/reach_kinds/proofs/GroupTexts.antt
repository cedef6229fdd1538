-- The group of a text, between two places, and the groups of texts one after another.
use Rattle.std.proofs.Common.{◌≡◌, ℕ, ◌+◌, ◌<◌, ◌≤◌, List, [], length, true, false, refl, sym, ◌∙◌, ap, subst, arith, Contains, Less, Equal, Greater, Some, slice_get, ◌⊎◌, inl, inr, slice_index_or, Ok, Err}
use Rattle.std.specs.List.Sorted.{IsStrictlySortedBy}
use Rattle.std.proofs.lemmas.Cmp.{nat_list_cmp_total, tied_itself}
use Rattle.std.proofs.lemmas.Bool.{cases_lt}
use Rattle.std.proofs.lemmas.Option.{slice_get-get_or}
use Rattle.std.proofs.lemmas.List.{get_or_default}
use Rattle.std.proofs.lemmas.Map.Keys.{Less-from_sorted}
use Rattle.std.specs.FinMap.{slice_cmp-IsAntisymmetric, nat_cmp-IsAntisymmetric}
use Rattle.std.specs.Ordering.{ordering_reverse}
use borrow.Author.Count.{below_more}
use Rattle.fbas_model.specs.Nodes.{Table}
use Rattle.fbas_model.specs.Names.{Name, name_cmp, marks}
use Rattle.cert_lines.specs.declared.faults.CertError.TheVariants.{UnknownNode}
use Rattle.reach_kinds.specs.Bodies.{all_among, nodes_of}

-- the text stands, if at all, from low up to high
pub record Between (texts : List Name) (text : Name) (low high : ℕ) : Type 0 where
  pub fits : high ≤ length texts
  pub below : (k : ℕ) → k < low → name_cmp (slice_index_or texts k []) text ≡ Less
  pub above : (k : ℕ) → high ≤ k → k < length texts → name_cmp (slice_index_or texts k []) text ≡ Greater

module _ (texts : List Name) (sorted : IsStrictlySortedBy name_cmp texts) (text : Name) (low high m : ℕ) (all : Between texts text low high) (at_low : low ≤ m) (at_high : m < high) where
  pub raised : name_cmp (slice_index_or texts m []) text ≡ Less → Between texts text (m + 1) high
  raised less = record {
    fits = all.fits;
    below = below_more (λ (k : ℕ). name_cmp (slice_index_or texts k []) text ≡ Less) m (λ k h. nat_list_cmp_total.trans (slice_index_or texts k []) (slice_index_or texts m []) text (Less-from_sorted name_cmp texts k m [] sorted h (let f = all.fits in omega arith)) less) less;
    above = all.above;
  }

  after : name_cmp (slice_index_or texts m []) text ≡ Greater → (k : ℕ) → k < length texts → (m < k) ⊎ (k ≤ m) → m ≤ k → name_cmp (slice_index_or texts k []) text ≡ Greater
  after greater k h (inl later) g =
      let back : name_cmp text (slice_index_or texts m []) ≡ Less = nat_list_cmp_total.antisymm text (slice_index_or texts m []) ∙ ap ordering_reverse greater in
      nat_list_cmp_total.antisymm (slice_index_or texts k []) text ∙ ap ordering_reverse (nat_list_cmp_total.trans text (slice_index_or texts m []) (slice_index_or texts k []) back (Less-from_sorted name_cmp texts m k [] sorted later h))
  after greater k h (inr same) g = let e : m ≡ k = omega arith in subst (λ (k : ℕ). name_cmp (slice_index_or texts k []) text ≡ Greater) e greater

  pub lowered : name_cmp (slice_index_or texts m []) text ≡ Greater → Between texts text low m
  lowered greater = record {
    fits = let f = all.fits in omega arith;
    below = all.below;
    above = λ k g h. after greater k h (cases_lt m k) g;
  }

  pub found : name_cmp (slice_index_or texts m []) text ≡ Equal → slice_get texts m ≡ Some text
  found equal = slice_get-get_or texts m [] (let f = all.fits in omega arith) ∙ ap Some (slice_cmp-IsAntisymmetric nat_cmp-IsAntisymmetric (slice_index_or texts m []) text equal)

pub nowhere : (texts : List Name) (text : Name) (low high : ℕ) → Between texts text low high → high ≤ low → Contains texts text → ⊥
nowhere texts text low high all h (k, within, at) =
    let here : slice_index_or texts k [] ≡ text = get_or_default texts k [] text within ∙ at in
    let tie = tied_itself nat_list_cmp_total text in
    elim (cases_lt k low) [
      | inl g ↦ let less = subst (λ (x : Name). name_cmp x text ≡ Less) here (all.below k g) in cc
      | inr g ↦ let greater = subst (λ (x : Name). name_cmp x text ≡ Greater) here (all.above k (omega arith) within) in cc
    ]

-- ---- texts one after another

-- a text that is none makes the list faulty
pub text_unknown : (names : List Name) (l : ℕ) (all : List Name) → all_among all names ≡ false → nodes_of names l all ≡ Err (UnknownNode l)
text_unknown names l all off = rw off refl

pub texts_known : (names : List Name) (l : ℕ) (all : List Name) (s : Table) → all_among all names ≡ true → s ≡ marks names all → nodes_of names l all ≡ Ok s
texts_known names l all s on is = rw on (ap Ok (sym is))
