-- A system with one name more, without that name.
use Rattle.std.proofs.Common.{◌≡◌, ℕ, zero, suc, ◌+◌, ◌≤◌, ◌<◌, Bool, true, false, cond, List, [], ◌∷◌, map, take, length, Option, Some, None, refl, sym, ap, ap₂, ◌∙◌, arith, inl, inr}
use Rattle.std.specs.Prelude.{All, IfSome, nat_le}
use Rattle.std.specs.Option.{option_map}
use Rattle.std.specs.List.{insert}
use Rattle.std.specs.Ordering.{is_lt}
use Rattle.std.proofs.lemmas.List.{length-map}
use Rattle.std.proofs.lemmas.List.Sums.{count_by-le-length}
use Rattle.std.proofs.lemmas.List.Elements.{All-head, All-tail}
use Rattle.std.proofs.lemmas.Bool.{cases_lt}
use Rattle.std.proofs.lemmas.Bool.Decides.{nat_tests}
use Rattle.fbas_model.specs.Nodes.{size}
use Rattle.fbas_model.specs.Names.{Name, name_cmp}
use Rattle.fbas_model.specs.Trees.{QuorumSet, quorum_set, Entries, none, node, inner}
use Rattle.fbas_model.specs.QuorumSets.{IsBelow, AreBelow}
use Rattle.fbas_model.specs.Fbas.{Fbas}
use Rattle.fbas_model.specs.Systems.{System, IsSystem, IsWithin}
use Rattle.fbas_model.specs.Restriction.{kept, rank, renumbered, renumbered_all, restricted, restricted_sets}
use Rattle.fbas_model.proofs.Sizes.{size-cons}
use Rattle.whatif_session.specs.Names.{moved_up, all_moved_up, number_after, place_for, with_name, all_but, ones}

kept-ones : {A : Type 0} → (xs : List A) → kept (ones (length xs)) xs ≡ xs
kept-ones [] = refl
kept-ones {A = A} (x ∷ xs) = ap (λ (ys : List A). x ∷ ys) (kept-ones xs)

-- without the new place the list is what it was
pub kept-put : {A : Type 0} → (p : ℕ) (x : A) (xs : List A) → p ≤ length xs → kept (all_but p (length xs)) (insert xs p x) ≡ xs
kept-put zero x xs low = kept-ones xs
kept-put (suc p) x [] low = absurd (omega (arith, low))
kept-put {A = A} (suc p) x (y ∷ ys) low = ap (λ (zs : List A). y ∷ zs) (kept-put p x ys (omega (arith, low)))

map-put : {A B : Type 0} → (f : A → B) (p : ℕ) (x : A) (xs : List A) → map f (insert xs p x) ≡ insert (map f xs) p (f x)
map-put f zero x xs = refl
map-put f (suc p) x [] = refl
map-put {B = B} f (suc p) x (y ∷ ys) = ap (λ (zs : List B). f y ∷ zs) (map-put f p x ys)

-- ---- numbers

pub size-ones : (n w : ℕ) → w ≤ n → size (take w (ones n)) ≡ w
size-ones n zero low = refl
size-ones zero (suc w) low = absurd (omega (arith, low))
size-ones (suc n) (suc w) low = size-cons true (take w (ones n)) ∙ let rest = size-ones n w (omega (arith, low)) in omega (arith, rest)

rank_low : (p n w : ℕ) → w < p → p ≤ n → size (take w (all_but p n)) ≡ w
rank_low zero n w low few = absurd (omega (arith, low))
rank_low (suc p) zero w low few = absurd (omega (arith, few))
rank_low (suc p) (suc n) zero low few = refl
rank_low (suc p) (suc n) (suc w) low few = size-cons true (take w (all_but p n)) ∙ let rest = rank_low p n w (omega (arith, low)) (omega (arith, few)) in omega (arith, rest)

rank_high : (p n w : ℕ) → p ≤ w → w < n → size (take (suc w) (all_but p n)) ≡ w
rank_high zero n w low few = size-cons false (take w (ones n)) ∙ let rest = size-ones n w (omega (arith, few)) in omega (arith, rest)
rank_high (suc p) zero w low few = absurd (omega (arith, few))
rank_high (suc p) (suc n) zero low few = absurd (omega (arith, low))
rank_high (suc p) (suc n) (suc w) low few = size-cons true (take (suc w) (all_but p n)) ∙ let rest = rank_high p n w (omega (arith, low)) (omega (arith, few)) in omega (arith, rest)

pub le_true : (p w : ℕ) → p ≤ w → nat_le p w ≡ true
le_true p w h = grind (arith, nat_tests)

pub le_false : (p w : ℕ) → w < p → nat_le p w ≡ false
le_false p w h = grind (arith, nat_tests)

number_back : (p n w : ℕ) → p ≤ n → w < n → rank (all_but p n) (number_after p w) ≡ w
number_back p n w few low = elim (cases_lt w p) [
  | inl before ↦ ap (λ (b : Bool). rank (all_but p n) (cond b (w + 1) w)) (le_false p w before) ∙ rank_low p n w before few
  | inr past ↦
      let e : w + 1 ≡ suc w = omega arith in
      ap (λ (b : Bool). rank (all_but p n) (cond b (w + 1) w)) (le_true p w past) ∙ ap (λ (v : ℕ). rank (all_but p n) v) e ∙ rank_high p n w past low
]

mutual
  set_back : (p n : ℕ) → p ≤ n → (q : QuorumSet) → IsBelow n q → renumbered (all_but p n) (moved_up p q) ≡ q
  set_back p n few (quorum_set k es) below = ap (quorum_set k) (entries_back p n few es below)

  entries_back : (p n : ℕ) → p ≤ n → (es : Entries) → AreBelow n es → renumbered_all (all_but p n) (all_moved_up p es) ≡ es
  entries_back p n few none below = refl
  entries_back p n few (node w rest) below = ap₂ node (number_back p n w few below.0) (entries_back p n few rest below.1)
  entries_back p n few (inner q rest) below = ap₂ inner (set_back p n few q below.0) (entries_back p n few rest below.1)

option_back : (p n : ℕ) → p ≤ n → (o : Option QuorumSet) → IfSome o (IsWithin n) → option_map (renumbered (all_but p n)) (option_map (moved_up p) o) ≡ o
option_back p n few None within = refl
option_back p n few (Some q) within = ap Some (set_back p n few q within.below)

sets_back : (p n : ℕ) → p ≤ n → (sets : Fbas) → All (λ o. IfSome o (IsWithin n)) sets → map (option_map (renumbered (all_but p n))) (map (option_map (moved_up p)) sets) ≡ sets
sets_back p n few [] within = refl
sets_back p n few (o ∷ sets) within = ap₂ (λ (x : Option QuorumSet) (xs : Fbas). x ∷ xs) (option_back p n few o (All-head (λ o. IfSome o (IsWithin n)) o sets within)) (sets_back p n few sets (All-tail (λ o. IfSome o (IsWithin n)) o sets within))

-- ---- the law

pub place-le : (name : Name) (names : List Name) → place_for name names ≤ length names
place-le name names = count_by-le-length (λ n. is_lt (name_cmp n name)) names

pub others_stay : (s : System) (name : Name) → IsSystem s.names s.sets → restricted (all_but (place_for name s.names) (length s.names)) (with_name s name) ≡ s
others_stay s name is =
    let p = place_for name s.names in
    let n = length s.names in
    let few : p ≤ n = place-le name s.names in
    let moved : Fbas = map (option_map (moved_up p)) s.sets in
    let both : Fbas = map (option_map (renumbered (all_but p n))) moved in
    let long : length both ≡ n = length-map moved (option_map (renumbered (all_but p n))) ∙ length-map s.sets (option_map (moved_up p)) ∙ is.places in
    let names_are : kept (all_but p n) (insert s.names p name) ≡ s.names = kept-put p name s.names few in
    let sets_are : restricted_sets (all_but p n) (insert moved p None) ≡ s.sets =
    ap (kept (all_but p n)) (map-put (option_map (renumbered (all_but p n))) p None moved)
    ∙ ap (λ (m : ℕ). kept (all_but p m) (insert both p None)) (sym long)
    ∙ kept-put p None both (omega (arith, few, long))
    ∙ sets_back p n few s.sets is.within in
    ap₂ (λ (ns : List Name) (fs : Fbas). record { names = ns; sets = fs }) names_are sets_are
