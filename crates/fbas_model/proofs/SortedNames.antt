-- Strictly sorted names: the place of a name among them, and those at some of the places.
use Rattle.std.proofs.Common.{◌≡◌, ℕ, ◌<◌, ◌≤◌, inl, inr, true, false, not, List, [], ◌∷◌, length, refl, ◌∙◌, ap, subst, arith, Some, None, slice_get, slice_index_or, Contains, ltb, Less}
use Rattle.std.specs.List.{prefix_len, AllByRecursion}
use Rattle.std.specs.List.Sorted.{IsStrictlySortedBy}
use Rattle.std.specs.Str.{bytes_eq}
use Rattle.std.proofs.lemmas.Bool.{cases_lt, lt-ltb, both_ways, false_from_ne_true, not-true, ltb-true, not-false}
use Rattle.std.proofs.lemmas.List.{get_or_default}
use Rattle.std.proofs.lemmas.Option.{slice_get_within, get_or_from_slice_get}
use Rattle.std.proofs.lemmas.List.Sums.{prefix_len_passes, prefix_len_stops}
use Rattle.std.proofs.lemmas.Map.Keys.{Less-from_sorted}
use Rattle.std.proofs.lemmas.Slice.Eq.{bytes_eq-Decides}
use Rattle.std.proofs.lemmas.Cmp.{tied_itself, nat_list_cmp_total}
use Rattle.fbas_model.specs.Nodes.{Table}
use Rattle.fbas_model.specs.Names.{Name, name_cmp, place_of}
use Rattle.fbas_model.specs.Restriction.{kept}

-- how many names stand before the first that is the name
abbrev before : List Name → Name → ℕ
before names name = prefix_len (λ n. not (bytes_eq n name)) names

-- the first place that has the name
at_first : (names : List Name) (name : Name) → before names name < length names → slice_index_or names (before names name) [] ≡ name
at_first names name h = (bytes_eq-Decides (slice_index_or names (before names name) []) name).0 (not-false (bytes_eq (slice_index_or names (before names name) []) name) (prefix_len_stops (λ n. not (bytes_eq n name)) names [] h))

pub place-missing : (names : List Name) (name : Name) → (Contains names name → ⊥) → place_of names name ≡ None
place-missing names name missing = elim (cases_lt (before names name) (length names)) [
  | inl h ↦ absurd (missing (before names name, h, get_or_default names (before names name) name [] h ∙ at_first names name h))
  | inr h ↦ let past : ltb (before names name) (length names) ≡ false = false_from_ne_true (ltb (before names name) (length names)) (λ e. absurd (let g = ltb-true (before names name) (length names) e in omega arith)) in rw past refl
]

pub place-found : (names : List Name) (name : Name) (m : ℕ) → IsStrictlySortedBy name_cmp names → m < length names → slice_index_or names m [] ≡ name → place_of names name ≡ Some m
place-found names name m sorted within here =
    let p = λ (n : Name). not (bytes_eq n name) in
    let n = before names name in
    let same : bytes_eq (slice_index_or names m []) name ≡ true = (bytes_eq-Decides (slice_index_or names m []) name).1 here in
    let not_later : n ≤ m = elim (cases_lt m n) [
      | inl g ↦ absurd (both_ways (bytes_eq (slice_index_or names m []) name) (not-true (bytes_eq (slice_index_or names m []) name) (prefix_len_passes p names m [] g)) same)
      | inr g ↦ g
    ] in
    let not_before : m ≤ n = elim (cases_lt n m) [
      | inl g ↦
          let first = at_first names name (omega arith) in
          let apart : name_cmp (slice_index_or names n []) (slice_index_or names m []) ≡ Less = Less-from_sorted name_cmp names n m [] sorted g within in
          let less : name_cmp name name ≡ Less = subst (λ (x : Name). name_cmp x name ≡ Less) first (subst (λ (y : Name). name_cmp (slice_index_or names n []) y ≡ Less) here apart) in
          let tie = tied_itself nat_list_cmp_total name in cc
      | inr g ↦ g
    ] in
    let e : n ≡ m = omega arith in
    let low : ltb n (length names) ≡ true = lt-ltb n (length names) (omega arith) in
    rw low (ap Some e)

before_itself : (name : Name) → name_cmp name name ≡ Less → ⊥
before_itself name less = let tie = tied_itself nat_list_cmp_total name in cc

-- strictly sorted names have a name at one place
pub place-only : (names : List Name) (name : Name) (m k : ℕ) → IsStrictlySortedBy name_cmp names → slice_get names m ≡ Some name → slice_get names k ≡ Some name → k ≡ m
place-only names name m k sorted at_m at_k =
    let here : slice_index_or names m [] ≡ name = get_or_from_slice_get names m name [] at_m in
    let there : slice_index_or names k [] ≡ name = get_or_from_slice_get names k name [] at_k in
    let less = λ (i j : ℕ) (p : slice_index_or names i [] ≡ name) (q : slice_index_or names j [] ≡ name) (g : i < j) (h : j < length names). before_itself name (subst (λ (x : Name). name_cmp x name ≡ Less) p (subst (λ (y : Name). name_cmp (slice_index_or names i []) y ≡ Less) q (Less-from_sorted name_cmp names i j [] sorted g h))) in
    elim (cases_lt m k) [
      | inl g ↦ absurd (less m k here there g (slice_get_within names k name at_k))
      | inr g ↦ elim (cases_lt k m) [
        | inl h ↦ absurd (less k m there here h (slice_get_within names m name at_m))
        | inr h ↦ omega arith
      ]
    ]

-- ---- the names at some of the places

kept_above : (t : Table) (x : Name) (ys : List Name) → AllByRecursion (λ (y : Name). name_cmp x y ≡ Less) ys → AllByRecursion (λ (y : Name). name_cmp x y ≡ Less) (kept t ys)
kept_above [] x ys h = tt
kept_above (m ∷ ms) x [] h = tt
kept_above (true ∷ ms) x (y ∷ ys) h = (h.0, kept_above ms x ys h.1)
kept_above (false ∷ ms) x (y ∷ ys) h = kept_above ms x ys h.1

-- they are sorted too
pub kept_sorted : (t : Table) (names : List Name) → IsStrictlySortedBy name_cmp names → IsStrictlySortedBy name_cmp (kept t names)
unfolding IsStrictlySortedBy
kept_sorted [] names h = tt
kept_sorted (m ∷ ms) [] h = tt
kept_sorted (true ∷ ms) (x ∷ xs) h = (kept_above ms x xs h.0, kept_sorted ms xs h.1)
kept_sorted (false ∷ ms) (x ∷ xs) h = kept_sorted ms xs h.1
