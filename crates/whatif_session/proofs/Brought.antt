-- A new name leaves the greatest quorum and the unmet nodes as they were, but for their numbers. The new node is in no quorum, and
-- unmet.
use Rattle.std.proofs.Common.{◌≡◌, ℕ, zero, suc, ◌+◌, ◌≤◌, ◌<◌, ◌&&◌, ◌||◌, ◌==◌, not, leb, Bool, true, false, cond, List, [], ◌∷◌, map, take, length, Option, Some, None, refl, sym, ap, ap₂, ◌∙◌, subst, arith, inl, inr, ◌⊎◌, ◌↔◌, slice_get, slice_index_or}
use Rattle.std.specs.Prelude.{All, IfSome, nat_le, nat_lt}
use Rattle.std.specs.Option.{option_map}
use Rattle.std.specs.List.{insert}
use Rattle.std.proofs.Math.Bool.{and-false, or-false, or-true}
use Rattle.std.proofs.lemmas.Bool.{cases_lt, and_parts, and_from, or_cases, eqb-true, eq-eqb, lt-ltb, ltb-true, false≢true, false_from_ne_true}
use Rattle.std.proofs.lemmas.List.{length-map, get_or_past}
use Rattle.std.proofs.lemmas.List.Elements.{All-head, All-tail, All-nil, All-cons, All-get_or}
use Rattle.std.proofs.lemmas.Option.{get_or_from_slice_get}
use mathlib.Core.Path.{fun_ext}
use Rattle.fbas_model.specs.Nodes.{Nodes, Table, members, size, ◌⊆◌, ∅, ◌∖◌}
use Rattle.fbas_model.specs.Names.{Name}
use Rattle.fbas_model.specs.Trees.{QuorumSet, quorum_set, Entries, none, node, inner}
use Rattle.fbas_model.specs.QuorumSets.{IsBelow, AreBelow, mentioned, mentioned_by}
use Rattle.fbas_model.specs.Counting.{is_satisfied, is_satisfied_if_any, count_met}
use Rattle.fbas_model.specs.Fbas.{Fbas, Quorum, IsClosed, IsGreatestQuorum, all_nodes}
use Rattle.fbas_model.specs.Systems.{System, IsSystem, IsWithin}
use Rattle.fbas_model.specs.Restriction.{kept, rank, raised, restricted_sets}
use Rattle.fbas_model.proofs.RestrictionLaw.{quorum-restricted, raised-onto, raised_within}
use Rattle.fbas_model.proofs.Sizes.{size-cons, member_lt}
use Rattle.fbas_model.proofs.Slices.{no_slice}
use Rattle.fbas_model.proofs.Tables.{table_ext, table_is, members-table_from}
use Rattle.greatest_quorum.specs.Greatest.{greatest_of}
use Rattle.greatest_quorum.specs.Unmet.{unmet_of, is_unmet}
use Rattle.greatest_quorum.proofs.GreatestLaws.{length-greatest_of, greatest_is, greatest_only}
use Rattle.greatest_quorum.proofs.UnmetLaws.{length-unmet_of}
use Rattle.whatif_session.specs.Names.{moved_up, all_moved_up, number_after, place_for, with_name, all_but, ones}
use Rattle.whatif_session.specs.Sessions.{nobody}
use Rattle.whatif_session.proofs.KnownUnmet.{not_one}
use Rattle.whatif_session.proofs.Following.{length-nobody, none_is}
use Rattle.whatif_session.proofs.NamePlaces.{others_stay, place-le, kept-put, size-ones, le_true, le_false}
use Rattle.whatif_session.proofs.NewNames.{length-insert, All-insert}

-- ---- a list with one item more

put_below : {A : Type 0} → (p : ℕ) (x : A) (xs : List A) (w : ℕ) (d : A) → p ≤ length xs → w < p → slice_index_or (insert xs p x) w d ≡ slice_index_or xs w d
put_below zero x xs w d few low = absurd (omega (arith, low))
put_below (suc p) x [] w d few low = absurd (omega (arith, few))
put_below (suc p) x (y ∷ ys) zero d few low = refl
put_below (suc p) x (y ∷ ys) (suc w) d few low = put_below p x ys w d (omega (arith, few)) (omega (arith, low))

put_above : {A : Type 0} → (p : ℕ) (x : A) (xs : List A) (w : ℕ) (d : A) → p ≤ length xs → p ≤ w → slice_index_or (insert xs p x) (suc w) d ≡ slice_index_or xs w d
put_above zero x xs w d few high = refl
put_above (suc p) x [] w d few high = absurd (omega (arith, few))
put_above (suc p) x (y ∷ ys) zero d few high = absurd (omega (arith, high))
put_above (suc p) x (y ∷ ys) (suc w) d few high = put_above p x ys w d (omega (arith, few)) (omega (arith, high))

pub put_here : {A : Type 0} → (p : ℕ) (x : A) (xs : List A) (d : A) → p ≤ length xs → slice_index_or (insert xs p x) p d ≡ x
put_here zero x xs d few = refl
put_here (suc p) x [] d few = absurd (omega (arith, few))
put_here (suc p) x (y ∷ ys) d few = put_here p x ys d (omega (arith, few))

get_here : {A : Type 0} → (p : ℕ) (x : A) (xs : List A) → p ≤ length xs → slice_get (insert xs p x) p ≡ Some x
get_here zero x xs few = refl
get_here (suc p) x [] few = absurd (omega (arith, few))
get_here (suc p) x (y ∷ ys) few = get_here p x ys (omega (arith, few))

-- each other item has the number that comes of the new one
pub put_other : {A : Type 0} → (p : ℕ) (x : A) (xs : List A) (w : ℕ) (d : A) → p ≤ length xs → slice_index_or (insert xs p x) (number_after p w) d ≡ slice_index_or xs w d
put_other p x xs w d few = elim (cases_lt w p) [
  | inl low ↦ ap (λ (b : Bool). slice_index_or (insert xs p x) (cond b (w + 1) w) d) (le_false p w low) ∙ put_below p x xs w d few low
  | inr high ↦
      let e : w + 1 ≡ suc w = omega arith in
      ap (λ (b : Bool). slice_index_or (insert xs p x) (cond b (w + 1) w) d) (le_true p w high) ∙ ap (λ (v : ℕ). slice_index_or (insert xs p x) v d) e ∙ put_above p x xs w d few high
]

-- a place is the new one, or that of another item
pub place_cases : (p n v : ℕ) → p ≤ n → v < n + 1 → (v ≡ p) ⊎ ((w : ℕ) × w < n × v ≡ number_after p w)
place_cases p n v few low = elim (cases_lt v p) [
  | inl before ↦ inr (v, omega (arith, before, few), sym (ap (λ (b : Bool). cond b (v + 1) v) (le_false p v before)))
  | inr past ↦ elim (cases_lt p v) [
    | inl high ↦ later v high low
    | inr not_high ↦ inl (omega (arith, past, not_high))
  ]
]
  where
    later : (v : ℕ) → p < v → v < n + 1 → (v ≡ p) ⊎ ((w : ℕ) × w < n × v ≡ number_after p w)
    later zero high low = absurd (omega (arith, high))
    later (suc w) high low =
        let at : p ≤ w = omega (arith, high) in
        let e : suc w ≡ w + 1 = omega arith in
        inr (w, omega (arith, low), e ∙ sym (ap (λ (b : Bool). cond b (w + 1) w) (le_true p w at)))

-- ---- the places but the new one

ones_in : (n w : ℕ) → w < n → members (ones n) w ≡ true
ones_in zero w low = absurd (omega (arith, low))
ones_in (suc n) zero low = refl
ones_in (suc n) (suc w) low = ones_in n w (omega (arith, low))

length-ones : (n : ℕ) → length (ones n) ≡ n
length-ones zero = refl
length-ones (suc n) = ap suc (length-ones n)

length-all_but : (p n : ℕ) → p ≤ n → length (all_but p n) ≡ suc n
length-all_but zero n few = ap suc (length-ones n)
length-all_but (suc p) zero few = absurd (omega (arith, few))
length-all_but (suc p) (suc n) few = ap suc (length-all_but p n (omega (arith, few)))

but_below : (p n w : ℕ) → p ≤ n → w < p → members (all_but p n) w ≡ true
but_below zero n w few low = absurd (omega (arith, low))
but_below (suc p) zero w few low = absurd (omega (arith, few))
but_below (suc p) (suc n) zero few low = refl
but_below (suc p) (suc n) (suc w) few low = but_below p n w (omega (arith, few)) (omega (arith, low))

but_above : (p n w : ℕ) → p ≤ w → w < n → members (all_but p n) (suc w) ≡ true
but_above zero n w high low = ones_in n w low
but_above (suc p) zero w high low = absurd (omega (arith, low))
but_above (suc p) (suc n) zero high low = absurd (omega (arith, high))
but_above (suc p) (suc n) (suc w) high low = but_above p n w (omega (arith, high)) (omega (arith, low))

other_in : (p n w : ℕ) → p ≤ n → w < n → members (all_but p n) (number_after p w) ≡ true
other_in p n w few low = elim (cases_lt w p) [
  | inl before ↦ ap (λ (b : Bool). members (all_but p n) (cond b (w + 1) w)) (le_false p w before) ∙ but_below p n w few before
  | inr past ↦
      let e : w + 1 ≡ suc w = omega arith in
      ap (λ (b : Bool). members (all_but p n) (cond b (w + 1) w)) (le_true p w past) ∙ ap (λ (v : ℕ). members (all_but p n) v) e ∙ but_above p n w past low
]

-- ---- a set that the new node is not in

put_raised : (p : ℕ) (g : Table) (v : ℕ) → p ≤ length g → members (insert g p false) v ≡ raised (all_but p (length g)) (members g) v
put_raised zero g zero few = refl
put_raised zero g (suc v) few = elim (cases_lt v (length g)) [
  | inl low ↦
      let place : rank (false ∷ ones (length g)) (suc v) ≡ v = size-cons false (take v (ones (length g))) ∙ (let rest = size-ones (length g) v (omega (arith, low)) in omega (arith, rest)) in
      rw (ones_in (length g) v low, place) refl
  | inr past ↦
      let none : members (ones (length g)) v ≡ false = get_or_past (ones (length g)) v false (omega (arith, past, length-ones (length g))) in
      rw none (get_or_past g v false past)
]
put_raised (suc p) [] v few = absurd (omega (arith, few))
put_raised (suc p) (b ∷ g) zero few = refl
put_raised (suc p) (b ∷ g) (suc v) few =
    let r = rank (all_but p (length g)) v in
    let place : rank (true ∷ all_but p (length g)) (suc v) ≡ suc r = size-cons true (take v (all_but p (length g))) ∙ one_more r in
    put_raised p g v (omega (arith, few)) ∙ sym (ap (λ (k : ℕ). members (all_but p (length g)) v && members (b ∷ g) k) place)
  where
    one_more : (r : ℕ) → 1 + r ≡ suc r
    one_more r = omega arith

-- ---- a quorum set with moved numbers

mutual
  moved-in : (p n : ℕ) → p ≤ n → (q : QuorumSet) → IsBelow n q → mentioned (moved_up p q) ⊆ members (all_but p n)
  moved-in p n few (quorum_set k es) below = all_moved-in p n few es below

  all_moved-in : (p n : ℕ) → p ≤ n → (es : Entries) → AreBelow n es → mentioned_by (all_moved_up p es) ⊆ members (all_but p n)
  all_moved-in p n few none below x at = absurd (false≢true at)
  all_moved-in p n few (node w rest) below x at = elim (or_cases (x == number_after p w) (mentioned_by (all_moved_up p rest) x) at) [
    | inl here ↦ ap (λ (v : ℕ). members (all_but p n) v) (eqb-true x (number_after p w) here) ∙ other_in p n w few below.0
    | inr later ↦ all_moved-in p n few rest below.1 x later
  ]
  all_moved-in p n few (inner q rest) below x at = elim (or_cases (mentioned (moved_up p q) x) (mentioned_by (all_moved_up p rest) x) at) [
    | inl here ↦ moved-in p n few q below.0 x here
    | inr later ↦ all_moved-in p n few rest below.1 x later
  ]

mutual
  moved-satisfied : (p n : ℕ) (u s : Nodes) → ((w : ℕ) → w < n → u (number_after p w) ≡ s w) → (q : QuorumSet) → IsBelow n q → is_satisfied u (moved_up p q) ≡ is_satisfied s q
  moved-satisfied p n u s says (quorum_set k es) below = ap (λ (m : ℕ). leb 1 k && leb k m) (moved-met p n u s says es below)

  moved-met : (p n : ℕ) (u s : Nodes) → ((w : ℕ) → w < n → u (number_after p w) ≡ s w) → (es : Entries) → AreBelow n es → count_met u (all_moved_up p es) ≡ count_met s es
  moved-met p n u s says none below = refl
  moved-met p n u s says (node w rest) below = ap₂ {C = ℕ} (λ (b : Bool) (m : ℕ). cond b 1 0 + m) (says w below.0) (moved-met p n u s says rest below.1)
  moved-met p n u s says (inner q rest) below = ap₂ {C = ℕ} (λ (b : Bool) (m : ℕ). cond b 1 0 + m) (moved-satisfied p n u s says q below.0) (moved-met p n u s says rest below.1)

abbrev StaysIn : ℕ → ℕ → Option QuorumSet → Type 0
StaysIn p n o = IfSome o (λ q. mentioned q ⊆ members (all_but p n))

all_stay_in : (p n : ℕ) → p ≤ n → (sets : Fbas) → All (λ o. IfSome o (IsWithin n)) sets → All (StaysIn p n) (map (option_map (moved_up p)) sets)
all_stay_in p n few [] h = All-nil (StaysIn p n)
all_stay_in p n few (o ∷ sets) h =
    All-cons (StaysIn p n) (option_map (moved_up p) o) (map (option_map (moved_up p)) sets) (one o (All-head (λ o. IfSome o (IsWithin n)) o sets h)) (all_stay_in p n few sets (All-tail (λ o. IfSome o (IsWithin n)) o sets h))
  where
    one : (o : Option QuorumSet) → IfSome o (IsWithin n) → StaysIn p n (option_map (moved_up p) o)
    one None h = tt
    one (Some q) h = moved-in p n few q h.below

-- ---- the greatest quorum

module _ (s : System) (name : Name) (is : IsSystem s.names s.sets) where
  abbrev place : ℕ
  place = place_for name s.names

  abbrev n : ℕ
  n = length s.names

  abbrev but : Table
  but = all_but place n

  abbrev f : Fbas
  f = insert (map (option_map (moved_up place)) s.sets) place None

  few : place ≤ n
  few = place-le name s.names

  moved_long : length (map (option_map (moved_up place)) s.sets) ≡ n
  moved_long = length-map s.sets (option_map (moved_up place)) ∙ is.places

  few_moved : place ≤ length (map (option_map (moved_up place)) s.sets)
  few_moved = omega (arith, few, moved_long)

  pub long : length f ≡ n + 1
  long = length-insert place None (map (option_map (moved_up place)) s.sets) ∙ ap (λ (m : ℕ). m + 1) moved_long

  but_long : length but ≡ length f
  but_long = let a = length-all_but place n few in omega (arith, a, long)

  back : restricted_sets but f ≡ s.sets
  back = ap (λ (t : System). t.sets) (others_stay s name is)

  closed : IsClosed f (members but)
  closed v d at has =
      let all : All (StaysIn place n) f = All-insert (StaysIn place n) place None (map (option_map (moved_up place)) s.sets) tt (all_stay_in place n few s.sets is.within) in
      let low : v < length f = omega (arith, member_lt but v at, but_long) in
      let own : slice_index_or f v None ≡ Some d = get_or_from_slice_get f v (Some d) None has in
      subst (λ (o : Option QuorumSet). StaysIn place n o) own (All-get_or (StaysIn place n) f v None low all)

  -- a set of the old nodes has the same table once it has a place for the new one
  pub put_is_raised : (g : Table) → length g ≡ length s.sets → members (insert g place false) ≡ raised but (members g)
  put_is_raised g same =
      let size : length g ≡ n = same ∙ is.places in
      fun_ext (λ v. put_raised place g v (omega (arith, few, size)) ∙ ap (λ (m : ℕ). raised (all_but place m) (members g) v) size)

  nobody_put : insert (nobody s) place false ≡ nobody (with_name s name)
  nobody_put =
      let none = nobody s in
      let none_long : length none ≡ n = length-nobody s ∙ is.places in
      let size : length (insert none place false) ≡ length f = length-insert place false none ∙ ap (λ (m : ℕ). m + 1) none_long ∙ sym long in
      none_is (with_name s name) (insert none place false) size (put_is_raised none (length-nobody s) ∙ fun_ext (λ v. ap (λ (b : Bool). members but v && b) (nobody_has (rank but v)) ∙ and-false (members but v)))
    where
      nobody_has : (v : ℕ) → members (nobody s) v ≡ false
      nobody_has v = elim (cases_lt v (length s.sets)) [
        | inl low ↦ members-table_from 0 (length s.sets) ∅ v low
        | inr past ↦ get_or_past (nobody s) v false (omega (arith, past, length-nobody s))
      ]

  kept_nobody : kept but (nobody (with_name s name)) ≡ nobody s
  kept_nobody =
      let none = nobody s in
      let none_long : length none ≡ n = length-nobody s ∙ is.places in
      ap (kept but) (sym nobody_put)
      ∙ ap (λ (m : ℕ). kept (all_but place m) (insert none place false)) (sym none_long)
      ∙ kept-put place false none (omega (arith, few, none_long))

  -- a set of the old nodes is a quorum of the one system where it is one of the other
  quorum_same : (w : Nodes) → w ⊆ all_nodes s.sets → Quorum s.sets (members (nobody s)) w ↔ Quorum f (members (nobody (with_name s name))) (raised but w)
  quorum_same w low =
      let here = subst (λ (g : Fbas). w ⊆ all_nodes g) (sym back) low in
      let law = quorum-restricted but (nobody (with_name s name)) f w but_long (length-nobody (with_name s name)) closed here in
      subst (λ (b : Table). Quorum s.sets (members b) w ↔ Quorum f (members (nobody (with_name s name))) (raised but w)) kept_nobody
      (subst (λ (g : Fbas). Quorum g (members (kept but (nobody (with_name s name)))) w ↔ Quorum f (members (nobody (with_name s name))) (raised but w)) back law)

  -- the new node is in no quorum
  old_nodes : (b w : Nodes) → Quorum f b w → w ⊆ members but
  old_nodes b w q v at =
      let low : v < n + 1 = let l = ltb-true v (length f) (and_parts (all_nodes f v) (not (b v)) (q.left v at)).0 in omega (arith, l, long) in
      elim (place_cases place n v few low) [
        | inl new ↦
            let unset : slice_get f v ≡ Some None = ap (λ (k : ℕ). slice_get f k) new ∙ get_here place None (map (option_map (moved_up place)) s.sets) few_moved in
            absurd (no_slice f b w v unset (q.slices v at))
        | inr old ↦ ap (λ (k : ℕ). members but k) old.2 ∙ other_in place n old.0 few old.1
      ]

  abbrev G : Table
  G = greatest_of s.sets (nobody s)

  still_greatest : IsGreatestQuorum f (members (nobody (with_name s name))) (all_nodes f) (raised but (members G))
  still_greatest =
      let old = greatest_is s.sets (nobody s) (length-nobody s) in
      let b = nobody (with_name s name) in
      let empty : members b ≡ ∅ = ap (λ (t : Table). members t) (sym nobody_put) ∙ put_is_raised (nobody s) (length-nobody s) ∙ fun_ext (λ v. none_there (rank but v) (members but v)) in
      let inside : members G ⊆ all_nodes s.sets = λ v at. (and_parts (all_nodes s.sets v) (not (members (nobody s) v)) (old.within v at)).0 in
      record {
        within = λ v at.
            let low : v < length f = omega (arith, member_lt but v (raised_within but (members G) v at), but_long) in
            and_from (all_nodes f v) (not (members b v)) (lt-ltb v (length f) low) (ap (λ (t : Nodes). not (t v)) empty);
        quorum = elim old.quorum [
          | inl nothing ↦ inl (fun_ext (λ v. ap (λ (t : Nodes). members but v && t (rank but v)) nothing ∙ and-false (members but v)))
          | inr q ↦ inr ((quorum_same (members G) inside).0 q)
        ];
        greatest = λ w q low v at.
            let onto = raised-onto but f w but_long (old_nodes (members b) w q) in
            let there = subst (λ (g : Fbas). onto.0 ⊆ all_nodes g) back onto.1 in
            let back_q = (quorum_same onto.0 there).1 (subst (λ (u : Nodes). Quorum f (members b) u) onto.2 q) in
            let parts = and_parts (members but v) (onto.0 (rank but v)) (sym (ap (λ (u : Nodes). u v) onto.2) ∙ at) in
            and_from (members but v) (members G (rank but v)) parts.0 (old.greatest onto.0 back_q there (rank but v) parts.1);
      }
    where
      none_there : (v : ℕ) (m : Bool) → (m && members (nobody s) v) ≡ false
      none_there v m = elim (cases_lt v (length s.sets)) [
        | inl low ↦ ap (λ (b : Bool). m && b) (members-table_from 0 (length s.sets) ∅ v low) ∙ and-false m
        | inr past ↦ ap (λ (b : Bool). m && b) (get_or_past (nobody s) v false (omega (arith, past, length-nobody s))) ∙ and-false m
      ]

  -- the greatest quorum is what it was
  pub greatest_stays : insert G place false ≡ greatest_of f (nobody (with_name s name))
  greatest_stays =
      let G_long : length G ≡ n = length-greatest_of s.sets (nobody s) ∙ is.places in
      let size : length (insert G place false) ≡ length f = length-insert place false G ∙ ap (λ (m : ℕ). m + 1) G_long ∙ sym long in
      greatest_only f (nobody (with_name s name)) (insert G place false) (length-nobody (with_name s name)) size
      (subst (λ (u : Nodes). IsGreatestQuorum f (members (nobody (with_name s name))) (all_nodes f) u) (sym (put_is_raised G (length-greatest_of s.sets (nobody s)))) still_greatest)

  -- ---- the unmet nodes

  module _ (b : Table) (same : length b ≡ length s.sets) where
    abbrev after : Table
    after = insert b place false

    abbrev U : Table
    U = unmet_of s.sets b

    few_b : place ≤ length b
    few_b = let p = is.places in omega (arith, few, same, p)

    less_same : (w : ℕ) → nat_lt (number_after place w) (length f) ≡ nat_lt w (length s.sets)
    less_same w = elim (cases_lt w (length s.sets)) [
      | inl low ↦
          let p = is.places in
          let there : number_after place w < length f = at_most (nat_le place w) w (omega (arith, low, long, p)) in
          lt-ltb (number_after place w) (length f) there ∙ sym (lt-ltb w (length s.sets) low)
      | inr past ↦
          let p = is.places in
          let e : number_after place w ≡ w + 1 = ap (λ (c : Bool). cond c (w + 1) w) (le_true place w (omega (arith, past, few, p))) in
          false_from_ne_true (nat_lt (number_after place w) (length f)) (λ h. let l = ltb-true (number_after place w) (length f) h in absurd (omega (arith, l, e, past, long, p)))
          ∙ sym (false_from_ne_true (nat_lt w (length s.sets)) (λ h. let l = ltb-true w (length s.sets) h in absurd (omega (arith, l, past))))
    ]
      where
        at_most : (c : Bool) (w : ℕ) → w + 1 < length f → cond c (w + 1) w < length f
        at_most true w h = h
        at_most false w h = omega (arith, h)

    says : (w : ℕ) → (all_nodes f ∖ members after) (number_after place w) ≡ (all_nodes s.sets ∖ members b) w
    says w = ap₂ (λ (x y : Bool). x && not y) (less_same w) (put_other place false b w false few_b)

    set_same : (o : Option QuorumSet) → IfSome o (IsWithin n) → is_satisfied_if_any (all_nodes f ∖ members after) (option_map (moved_up place) o) ≡ is_satisfied_if_any (all_nodes s.sets ∖ members b) o
    set_same None h = refl
    set_same (Some q) h = moved-satisfied place n (all_nodes f ∖ members after) (all_nodes s.sets ∖ members b) (λ w low. says w) q h.below

    own_moved : (w : ℕ) → slice_index_or (map (option_map (moved_up place)) s.sets) w None ≡ option_map (moved_up place) (slice_index_or s.sets w None)
    own_moved w = mapped s.sets w
      where
        mapped : (sets : Fbas) (w : ℕ) → slice_index_or (map (option_map (moved_up place)) sets) w None ≡ option_map (moved_up place) (slice_index_or sets w None)
        mapped [] w = refl
        mapped (o ∷ sets) zero = refl
        mapped (o ∷ sets) (suc w) = mapped sets w

    old_unmet : (w : ℕ) → w < n → members (insert U place true) (number_after place w) ≡ is_unmet f after (number_after place w)
    unfolding unmet_of
    old_unmet w low =
        let p = is.places in
        let U_long : length U ≡ n = length-unmet_of s.sets b ∙ is.places in
        let at : w < length s.sets = omega (arith, low, p) in
        let start : 0 + w ≡ w = omega arith in
        let within = All-get_or (λ o. IfSome o (IsWithin n)) s.sets w None at is.within in
        put_other place true U w false (omega (arith, few, U_long))
        ∙ members-table_from 0 (length s.sets) (is_unmet s.sets b) w at
        ∙ ap (is_unmet s.sets b) start
        ∙ sym (ap₂ (λ (x y : Bool). not x && not y) (put_other place false b w false few_b)
        (ap (is_satisfied_if_any (all_nodes f ∖ members after)) (put_other place None (map (option_map (moved_up place)) s.sets) w None few_moved ∙ own_moved w) ∙ set_same (slice_index_or s.sets w None) within))

    new_unmet : members (insert U place true) place ≡ is_unmet f after place
    new_unmet =
        let U_long : length U ≡ n = length-unmet_of s.sets b ∙ is.places in
        put_here place true U false (omega (arith, few, U_long))
        ∙ sym (ap₂ (λ (x y : Bool). not x && not y) (put_here place false b false few_b) (ap (is_satisfied_if_any (all_nodes f ∖ members after)) (put_here place None (map (option_map (moved_up place)) s.sets) None few_moved)))

    -- the unmet nodes are those that were, and the new one
    pub unmet_stay : insert U place true ≡ unmet_of f after
    unfolding unmet_of
    unmet_stay =
        let U_long : length U ≡ n = length-unmet_of s.sets b ∙ is.places in
        let size : length (insert U place true) ≡ length f = length-insert place true U ∙ ap (λ (m : ℕ). m + 1) U_long ∙ sym long in
        table_is (length f) (insert U place true) (is_unmet f after) size (λ v low. elim (place_cases place n v few (omega (arith, low, long))) [
          | inl new ↦ subst (λ (k : ℕ). members (insert U place true) k ≡ is_unmet f after k) (sym new) new_unmet
          | inr old ↦ subst (λ (k : ℕ). members (insert U place true) k ≡ is_unmet f after k) (sym old.2) (old_unmet old.0 old.1)
        ])

-- ---- how the sets are made

pub numbers_apart : (p w v : ℕ) → (w ≡ v → ⊥) → number_after p w ≡ number_after p v → ⊥
numbers_apart p w v apart e = elim (cases_lt w p) [
  | inl low ↦ elim (cases_lt v p) [
    | inl low_v ↦ apart (sym (below p w low) ∙ e ∙ below p v low_v)
    | inr high_v ↦ absurd (let a = below p w low in let b = above p v high_v in omega (arith, a, b, e, low, high_v))
  ]
  | inr high ↦ elim (cases_lt v p) [
    | inl low_v ↦ absurd (let a = above p w high in let b = below p v low_v in omega (arith, a, b, e, high, low_v))
    | inr high_v ↦ apart (let a = above p w high in let b = above p v high_v in omega (arith, a, b, e))
  ]
]
  where
    below : (p w : ℕ) → w < p → number_after p w ≡ w
    below p w low = ap (λ (b : Bool). cond b (w + 1) w) (le_false p w low)

    above : (p w : ℕ) → p ≤ w → number_after p w ≡ w + 1
    above p w high = ap (λ (b : Bool). cond b (w + 1) w) (le_true p w high)

pub new_apart : (p w : ℕ) → p ≡ number_after p w → ⊥
new_apart p w e = elim (cases_lt w p) [
  | inl low ↦ let a : number_after p w ≡ w = ap (λ (b : Bool). cond b (w + 1) w) (le_false p w low) in absurd (omega (arith, a, e, low))
  | inr high ↦ let a : number_after p w ≡ w + 1 = ap (λ (b : Bool). cond b (w + 1) w) (le_true p w high) in absurd (omega (arith, a, e, high))
]

-- of a set its first v nodes are there, with the numbers that they have then
pub record Moving (p n v : ℕ) (set moved : Table) : Type 0 where
  pub size : length moved ≡ n + 1
  pub new : members moved p ≡ false
  pub done : (w : ℕ) → w < v → members moved (number_after p w) ≡ members set w
  pub later : (w : ℕ) → v ≤ w → members moved (number_after p w) ≡ false

pub moving_first : (p n : ℕ) (set moved : Table) → length moved ≡ n + 1 → members moved ≡ ∅ → Moving p n 0 set moved
moving_first p n set moved size empty = record {
  size = size;
  new = ap (λ (t : Nodes). t p) empty;
  done = λ w low. absurd (omega (arith, low));
  later = λ w past. ap (λ (t : Nodes). t (number_after p w)) empty;
}

pub moving_past : (p n v : ℕ) (set moved : Table) → Moving p n v set moved → members set v ≡ false → Moving p n (v + 1) set moved
moving_past p n v set moved m out = record {
  size = m.size;
  new = m.new;
  done = λ w low. elim (cases_lt w v) [
    | inl before ↦ m.done w before
    | inr not_before ↦
        let e : w ≡ v = omega (arith, low, not_before) in
        subst (λ (k : ℕ). members moved (number_after p k) ≡ members set k) (sym e) (m.later v (omega arith) ∙ sym out)
  ];
  later = λ w past. m.later w (omega (arith, past));
}

pub moving_on : (p n v : ℕ) (set moved next : Table) → Moving p n v set moved → members set v ≡ true → length next ≡ length moved → members next ≡ (λ x. members moved x || (x == number_after p v)) → Moving p n (v + 1) set next
moving_on p n v set moved next m here size put =
    let other : (x : ℕ) → (x ≡ number_after p v → ⊥) → members next x ≡ members moved x = λ x apart. ap (λ (t : Nodes). t x) put ∙ ap (λ (b : Bool). members moved x || b) (not_one x (number_after p v) apart) ∙ or-false (members moved x) in
    record {
      size = size ∙ m.size;
      new = other p (new_apart p v) ∙ m.new;
      done = λ w low. elim (cases_lt w v) [
        | inl before ↦ other (number_after p w) (numbers_apart p w v (λ e. absurd (omega (arith, e, before)))) ∙ m.done w before
        | inr not_before ↦
            let e : w ≡ v = omega (arith, low, not_before) in
            subst (λ (k : ℕ). members next (number_after p k) ≡ members set k) (sym e) (ap (λ (t : Nodes). t (number_after p v)) put ∙ ap (λ (b : Bool). members moved (number_after p v) || b) (eq-eqb (number_after p v) (number_after p v) refl) ∙ or-true (members moved (number_after p v)) ∙ sym here)
      ];
      later = λ w past. other (number_after p w) (numbers_apart p w v (λ e. absurd (omega (arith, e, past)))) ∙ m.later w (omega (arith, past));
    }

pub moved_all : (p n v : ℕ) (set moved : Table) → p ≤ n → length set ≡ n → n ≤ v → Moving p n v set moved → moved ≡ insert set p false
moved_all p n v set moved few long end m =
    let size : length moved ≡ length (insert set p false) = m.size ∙ ap (λ (k : ℕ). k + 1) (sym long) ∙ sym (length-insert p false set) in
    let few_set : p ≤ length set = omega (arith, few, long) in
    table_ext moved (insert set p false) size (λ x. elim (cases_lt x (n + 1)) [
      | inl low ↦ elim (place_cases p n x few low) [
        | inl new ↦ ap (λ (k : ℕ). members moved k) new ∙ m.new ∙ sym (put_here p false set false few_set) ∙ ap (λ (k : ℕ). members (insert set p false) k) (sym new)
        | inr old ↦
            ap (λ (k : ℕ). members moved k) old.2
            ∙ m.done old.0 (let l = old.1 in omega (arith, l, end))
            ∙ sym (put_other p false set old.0 false few_set)
            ∙ ap (λ (k : ℕ). members (insert set p false) k) (sym old.2)
      ]
      | inr past ↦
          let size_moved = m.size in
          get_or_past moved x false (omega (arith, past, size_moved)) ∙ sym (get_or_past (insert set p false) x false (omega (arith, past, size_moved, size)))
    ])

-- with the new node in it
pub put_in : (p : ℕ) (set next : Table) → p ≤ length set → length next ≡ length (insert set p false) → members next ≡ (λ x. members (insert set p false) x || (x == p)) → next ≡ insert set p true
put_in p set next few size put =
    let long : length next ≡ length (insert set p true) = size ∙ length-insert p false set ∙ sym (length-insert p true set) in
    let at : (x : ℕ) → members next x ≡ (members (insert set p false) x || (x == p)) = λ x. ap (λ (t : Nodes). t x) put in
    table_ext next (insert set p true) long (λ x. elim (cases_lt x (length set + 1)) [
      | inl low ↦ elim (place_cases p (length set) x few low) [
        | inl new ↦
            at x
            ∙ ap (λ (b : Bool). members (insert set p false) x || b) (eq-eqb x p new)
            ∙ or-true (members (insert set p false) x)
            ∙ sym (put_here p true set false few)
            ∙ ap (λ (k : ℕ). members (insert set p true) k) (sym new)
        | inr old ↦
            let apart : x ≡ p → ⊥ = λ e. new_apart p old.0 (sym e ∙ old.2) in
            at x
            ∙ ap (λ (b : Bool). members (insert set p false) x || b) (not_one x p apart)
            ∙ or-false (members (insert set p false) x)
            ∙ ap (λ (k : ℕ). members (insert set p false) k) old.2
            ∙ put_other p false set old.0 false few
            ∙ sym (put_other p true set old.0 false few)
            ∙ ap (λ (k : ℕ). members (insert set p true) k) (sym old.2)
      ]
      | inr past ↦
          let l = length-insert p true set in
          get_or_past next x false (omega (arith, past, long, l)) ∙ sym (get_or_past (insert set p true) x false (omega (arith, past, l)))
    ])
