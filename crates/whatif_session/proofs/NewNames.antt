-- A new name among sorted names, and the limits of a system that has it.
use Rattle.std.proofs.Common.{◌≡◌, ℕ, zero, suc, ◌+◌, ◌≤◌, ◌<◌, ◌==◌, max, Bool, true, false, cond, ◌||◌, List, [], ◌∷◌, ◌++◌, map, take, length, Option, Some, None, Result, Ok, Err, nat_le, Ordering, Less, Equal, Greater, IsTrue, Contains, slice_index_or, refl, sym, ap, ap₂, ◌∙◌, subst, arith}
use Rattle.std.specs.Prelude.{All, IfSome, count_by, nat_lt, slice_get, if◌then◌else◌}
use Rattle.std.specs.BTreeSet.{insert_key}
use Rattle.std.specs.List.{AllByRecursion, insert}
use Rattle.std.specs.List.Sorted.{IsStrictlySortedBy}
use Rattle.std.specs.Option.{option_map, option_copied}
use denote.Ref.{Bor}
use Rattle.std.specs.Ordering.{is_lt, match_ordering, ordering_reverse}
use Rattle.std.specs.Str.{bytes_eq}
use Rattle.std.proofs.lemmas.Bool.{both_ways, false_from_ne_true, eqb-true, lt-ltb, ltb-true}
use Rattle.std.proofs.lemmas.Map.Views.{Contains-from_any}
use Rattle.std.proofs.lemmas.Slice.Eq.{bytes_eq-Decides}
use Rattle.std.proofs.lemmas.Cmp.{nat_list_cmp_total}
use Rattle.std.proofs.lemmas.List.{length-map, take_more, take_all, map-append}
use Rattle.std.proofs.lemmas.Option.{get_or_from_slice_get}
use Rattle.std.specs.Global.{Vec}
use Rattle.std.proofs.lemmas.List.Sums.{sum_by-cons}
use Rattle.std.proofs.lemmas.List.Elements.{All-nil, All-cons, All-head, All-tail}
use Rattle.fbas_model.specs.Names.{Name, name_cmp, is_key, is_among, AreNamesOf}
use Rattle.fbas_model.specs.Trees.{QuorumSet, quorum_set, Entries, none, node, inner}
use Rattle.fbas_model.specs.QuorumSets.{IsBelow, AreBelow, all_entries, all_entries_of, depth, depth_of}
use Rattle.fbas_model.specs.Fbas.{Fbas}
use Rattle.fbas_model.specs.Lists.{inner_entries, entries_of}
use Rattle.fbas_model.specs.Systems.{System, IsWithin, IsSystem, entries_in}
use Rattle.fbas_model.specs.declared.TheConstants.{MOST_NODES}
use Rattle.name_set.specs.Lists.{items_of}
use Rattle.node_json.specs.NamesInOrder.{in_order}
use Rattle.node_json.proofs.NamesInOrder.{equal_names, is_among-insert_key, insert_key-sorted, is_among-in_order, in_order-sorted, names_in_order, same_names}
use Rattle.config_text.proofs.Placed.{among-append}
use Rattle.whatif_session.specs.Names.{number_after, moved_up, all_moved_up, place_for, with_name, with_node}
use Rattle.whatif_session.specs.declared.faults.EditFault.{EditFault}
use Rattle.whatif_session.specs.declared.faults.EditFault.TheVariants.{TooManyNodes}
use Rattle.fbas_model.proofs.SortedNames.{place-missing}

-- ---- the place of a new name

count-cons : {X : Type 0} → (p : X → Bool) (x : X) (xs : List X) → count_by p (x ∷ xs) ≡ cond (p x) 1 0 + count_by p xs
count-cons p x xs = sum_by-cons (λ y. cond (p y) 1 0) x xs

-- no name comes before one that is below them all
place-first : (name : Name) (names : List Name) → AllByRecursion (λ z. name_cmp name z ≡ Less) names → place_for name names ≡ 0
place-first name [] h = refl
place-first name (y ∷ ys) h =
    let after : name_cmp y name ≡ Greater = nat_list_cmp_total.antisymm y name ∙ ap ordering_reverse h.0 in
    let here : place_for name (y ∷ ys) ≡ 0 + place_for name ys = count-cons (λ n. is_lt (name_cmp n name)) y ys ∙ ap (λ (o : Ordering). cond (is_lt o) 1 0 + place_for name ys) after in
    omega (arith, here, place-first name ys h.1)

above : (x : Name) (ys : List Name) → AllByRecursion (λ z. name_cmp x z ≡ Less) ys → (w : Name) → name_cmp w x ≡ Less → AllByRecursion (λ z. name_cmp w z ≡ Less) ys
above x [] h w less = tt
above x (y ∷ ys) h w less = (nat_list_cmp_total.trans w x y less h.0, above x ys h.1 w less)

-- a new name at its place is where its order puts it
pub placed_in_order : (name : Name) (names : List Name) → IsStrictlySortedBy name_cmp names → is_among name names ≡ false → insert_key name_cmp names name ≡ insert names (place_for name names) name
unfolding IsStrictlySortedBy
placed_in_order name [] sorted missing = refl
placed_in_order name (y ∷ ys) sorted missing =
    elim (name_cmp name y) as (λ o. name_cmp name y ≡ o → match_ordering o (name ∷ y ∷ ys) (y ∷ ys) (y ∷ insert_key name_cmp ys name) ≡ insert (y ∷ ys) (place_for name (y ∷ ys)) name) [
      | Less ↦ λ e. ap (λ (p : ℕ). insert (y ∷ ys) p name) (sym (place-first name (y ∷ ys) (e, above y ys sorted.0 name e)))
      | Equal ↦ λ e. absurd (both_ways (bytes_eq name y) (or_none (bytes_eq name y) (is_among name ys) missing).0 ((bytes_eq-Decides name y).1 (equal_names name y e)))
      | Greater ↦ λ e.
          let before : name_cmp y name ≡ Less = nat_list_cmp_total.antisymm y name ∙ ap ordering_reverse e in
          let place : place_for name (y ∷ ys) ≡ suc (place_for name ys) = count-cons (λ n. is_lt (name_cmp n name)) y ys ∙ ap (λ (o : Ordering). cond (is_lt o) 1 0 + place_for name ys) before ∙ omega arith in
          ap (λ (ns : List Name). y ∷ ns) (placed_in_order name ys sorted.1 (or_none (bytes_eq name y) (is_among name ys) missing).1)
          ∙ ap (λ (p : ℕ). insert (y ∷ ys) p name) (sym place)
    ] refl
  where
    or_none : (a b : Bool) → (a || b) ≡ false → (a ≡ false) × (b ≡ false)
    or_none true b h = absurd cc
    or_none false b h = (refl, h)

swapped : (a b : Bool) → (a || (b || false)) ≡ (b || a)
swapped true true = refl
swapped true false = refl
swapped false true = refl
swapped false false = refl

-- the distinct names of a list that has one name more than sorted names
pub one_name_more : (name : Name) (names given more : List Name) → IsStrictlySortedBy name_cmp names → is_among name names ≡ false → given ≡ names ++ name ∷ [] → AreNamesOf given more → more ≡ insert names (place_for name names) name
one_name_more name names given more sorted missing given_is are =
    names_in_order given more are
    ∙ ap in_order given_is
    ∙ same_names (in_order (names ++ name ∷ [])) (insert_key name_cmp names name) (in_order-sorted (names ++ name ∷ [])) (insert_key-sorted name names sorted) (λ k.
    is_among-in_order k (names ++ name ∷ []) ∙ among-append k names (name ∷ []) ∙ swapped (is_among k names) (bytes_eq k name) ∙ sym (is_among-insert_key k name names))
    ∙ placed_in_order name names sorted missing

pub not_among : (name : Name) (names : List Name) → (Contains names name → ⊥) → is_among name names ≡ false
not_among name names missing = false_from_ne_true (is_among name names) (λ e. missing (Contains-from_any (λ x y t. (bytes_eq-Decides x y).0 t) name names e))

-- ---- quorum sets with moved numbers

number-below : (p n w : ℕ) → w < n → number_after p w < n + 1
number-below p n w h = elim (nat_le p w) as (λ b. cond b (w + 1) w < n + 1) [ true ↦ omega (arith, h) | false ↦ omega (arith, h) ]

mutual
  moved-below : (p n : ℕ) (q : QuorumSet) → IsBelow n q → IsBelow (n + 1) (moved_up p q)
  moved-below p n (quorum_set k es) h = all_moved-below p n es h

  all_moved-below : (p n : ℕ) (es : Entries) → AreBelow n es → AreBelow (n + 1) (all_moved_up p es)
  all_moved-below p n none h = h
  all_moved-below p n (node w rest) h = (number-below p n w h.0, all_moved-below p n rest h.1)
  all_moved-below p n (inner q rest) h = (moved-below p n q h.0, all_moved-below p n rest h.1)

-- what is below a number is below a greater one
mutual
  pub below_limit : (n m : ℕ) (q : QuorumSet) → n ≤ m → IsBelow n q → IsBelow m q
  below_limit n m (quorum_set k es) few h = all_below_limit n m es few h

  all_below_limit : (n m : ℕ) (es : Entries) → n ≤ m → AreBelow n es → AreBelow m es
  all_below_limit n m none few h = h
  all_below_limit n m (node w rest) few h = (let low = h.0 in omega (arith, low, few), all_below_limit n m rest few h.1)
  all_below_limit n m (inner q rest) few h = (below_limit n m q few h.0, all_below_limit n m rest few h.1)

mutual
  moved-depth : (p : ℕ) (q : QuorumSet) → depth (moved_up p q) ≡ depth q
  moved-depth p (quorum_set k es) = ap (λ (d : ℕ). 1 + d) (all_moved-depth p es)

  all_moved-depth : (p : ℕ) (es : Entries) → depth_of (all_moved_up p es) ≡ depth_of es
  all_moved-depth p none = refl
  all_moved-depth p (node w rest) = all_moved-depth p rest
  all_moved-depth p (inner q rest) = ap₂ max (moved-depth p q) (all_moved-depth p rest)

mutual
  moved-entries : (p : ℕ) (q : QuorumSet) → all_entries (moved_up p q) ≡ all_entries q
  moved-entries p (quorum_set k es) = all_moved-entries p es

  all_moved-entries : (p : ℕ) (es : Entries) → all_entries_of (all_moved_up p es) ≡ all_entries_of es
  all_moved-entries p none = refl
  all_moved-entries p (node w rest) = ap (λ (n : ℕ). 1 + n) (all_moved-entries p rest)
  all_moved-entries p (inner q rest) = ap₂ (λ (a b : ℕ). 1 + a + b) (moved-entries p q) (all_moved-entries p rest)

-- a quorum set's two lists
moved-inner : (p : ℕ) (qs : List QuorumSet) → all_moved_up p (inner_entries qs) ≡ inner_entries (map (moved_up p) qs)
moved-inner p [] = refl
moved-inner p (q ∷ qs) = ap (inner (moved_up p q)) (moved-inner p qs)

pub moved-lists : (p : ℕ) (ws : List ℕ) (qs : List QuorumSet) → all_moved_up p (entries_of ws qs) ≡ entries_of (map (number_after p) ws) (map (moved_up p) qs)
moved-lists p [] qs = moved-inner p qs
moved-lists p (w ∷ ws) qs = ap (node (number_after p w)) (moved-lists p ws qs)

pub some_below : (o : Option (Bor QuorumSet)) (n : ℕ) → n ≤ MOST_NODES → IfSome o (λ q. IsBelow n q.now) → IfSome (option_copied o) (IsBelow MOST_NODES)
some_below None n few h = tt
some_below (Some q) n few h = below_limit n MOST_NODES q.now few h

-- ---- the limits of the whole

moved-within : (p n : ℕ) (o : Option QuorumSet) → IfSome o (IsWithin n) → IfSome (option_map (moved_up p) o) (IsWithin (n + 1))
moved-within p n None h = tt
moved-within p n (Some q) h = record { below = moved-below p n q h.below; shallow = let same = moved-depth p q in let was = h.shallow in omega (arith, same, was) }

all-moved-within : (p n : ℕ) (sets : Fbas) → All (λ o. IfSome o (IsWithin n)) sets → All (λ o. IfSome o (IsWithin (n + 1))) (map (option_map (moved_up p)) sets)
all-moved-within p n [] h = All-nil (λ o. IfSome o (IsWithin (n + 1)))
all-moved-within p n (o ∷ sets) h =
    All-cons (λ o. IfSome o (IsWithin (n + 1))) (option_map (moved_up p) o) (map (option_map (moved_up p)) sets) (moved-within p n o (All-head (λ o. IfSome o (IsWithin n)) o sets h)) (all-moved-within p n sets (All-tail (λ o. IfSome o (IsWithin n)) o sets h))

-- one item more, of which the same is so
pub All-insert : {A : Type 0} → (P : A → Type 0) (p : ℕ) (x : A) (xs : List A) → P x → All P xs → All P (insert xs p x)
All-insert P zero x xs here h = All-cons P x xs here h
All-insert P (suc p) x [] here h = All-cons P x [] here h
All-insert P (suc p) x (y ∷ ys) here h = All-cons P y (insert ys p x) (All-head P y ys h) (All-insert P p x ys here (All-tail P y ys h))

pub length-insert : {A : Type 0} → (p : ℕ) (x : A) (xs : List A) → length (insert xs p x) ≡ length xs + 1
length-insert zero x xs = omega arith
length-insert (suc p) x [] = omega arith
length-insert (suc p) x (y ∷ ys) = let rest = length-insert p x ys in omega (arith, rest)

pub entries-moved : (p : ℕ) (sets : Fbas) → entries_in (map (option_map (moved_up p)) sets) ≡ entries_in sets
entries-moved p [] = refl
entries-moved p (None ∷ sets) = entries-moved p sets
entries-moved p (Some q ∷ sets) = ap₂ (λ (a b : ℕ). a + b) (moved-entries p q) (entries-moved p sets)

pub entries-insert : (p : ℕ) (sets : Fbas) → entries_in (insert sets p None) ≡ entries_in sets
entries-insert zero sets = refl
entries-insert (suc p) [] = refl
entries-insert (suc p) (None ∷ sets) = entries-insert p sets
entries-insert (suc p) (Some q ∷ sets) = ap (λ (n : ℕ). all_entries q + n) (entries-insert p sets)

pub with_name-IsSystem : (s : System) (name : Name) → IsSystem s.names s.sets → IsTrue (is_key name) → length s.names + 1 ≤ MOST_NODES
    → IsSystem (insert s.names (place_for name s.names) name) (insert (map (option_map (moved_up (place_for name s.names))) s.sets) (place_for name s.names) None)
with_name-IsSystem s name is key few =
    let p = place_for name s.names in
    let n = length s.names in
    let moved : Fbas = map (option_map (moved_up p)) s.sets in
    let names_long : length (insert s.names p name) ≡ n + 1 = length-insert p name s.names in
    record {
      places = let long = length-insert p None moved in let same = length-map s.sets (option_map (moved_up p)) in let was = is.places in omega (arith, long, same, was, names_long);
      keys = All-insert (λ x. IsTrue (is_key x)) p name s.names key is.keys;
      few = omega (arith, names_long, few);
      within = subst (λ (m : ℕ). All (λ o. IfSome o (IsWithin m)) (insert moved p None)) (sym names_long) (All-insert (λ o. IfSome o (IsWithin (n + 1))) p None moved tt (all-moved-within p n s.sets is.within));
      entries = let same = entries-insert p moved in let moved_same = entries-moved p s.sets in let was = is.entries in omega (arith, same, moved_same, was);
    }

-- ---- the nodes of a list of names

pub no_items : (text : List ℕ) → (length text == 0) ≡ true → items_of text ≡ []
no_items [] h = refl
no_items (b ∷ bytes) h = absurd (let k = eqb-true (length (b ∷ bytes)) 0 h in omega arith)

pub item_more : (items : List Name) (i : ℕ) (item : Name) → i < length items → item ≡ slice_index_or items i item → take i items ++ item ∷ [] ≡ take (i + 1) items
item_more items i item low is = ap (λ (x : Name). take i items ++ x ∷ []) is ∙ sym (take_more items i item low)

-- ---- a system with one name more, and the limit on nodes

pub node_many : (s : System) (name : Name) (n : ℕ) → (Contains s.names name → ⊥) → n ≡ length s.names + 1 → MOST_NODES < n → with_node s name ≡ Err (TooManyNodes n)
node_many s name n missing counted many =
    rw (place-missing s.names name missing, lt-ltb MOST_NODES (length s.names + 1) (subst (λ (m : ℕ). MOST_NODES < m) counted many)) (ap (λ (m : ℕ). Err (TooManyNodes m)) (sym counted))

-- the lists of a system with one more name, as they are made one after another
pub lists_with : (s : System) (name : Name) (names more : List Name) (place : ℕ) (sets : Fbas) → names ≡ s.names → more ≡ insert names (place_for name names) name → place ≡ place_for name names → sets ≡ insert (map (option_map (moved_up place)) s.sets) place None
    → (more ≡ insert s.names (place_for name s.names) name) × (sets ≡ insert (map (option_map (moved_up (place_for name s.names))) s.sets) (place_for name s.names) None)
lists_with s name names more place sets n m p made = (
  m ∙ ap (λ (ns : List Name). insert ns (place_for name ns) name) n,
  made ∙ ap (λ (at : ℕ). insert (map (option_map (moved_up at)) s.sets) at None) (p ∙ ap (place_for name) n),
)

abbrev ok_system : List Name → Fbas → Result System EditFault
ok_system names sets = Ok (record { names = names; sets = sets })

pub node_new : (s t : System) (name : Name) → (Contains s.names name → ⊥) → length s.names + 1 ≤ MOST_NODES → t.names ≡ insert s.names (place_for name s.names) name → t.sets ≡ insert (map (option_map (moved_up (place_for name s.names))) s.sets) (place_for name s.names) None
    → with_node s name ≡ Ok t
node_new s t name missing few names_are sets_are =
    rw (place-missing s.names name missing, not_above MOST_NODES (length s.names + 1) few) (ap₂ ok_system (sym names_are) (sym sets_are))
  where
    not_above : (m n : ℕ) → n ≤ m → nat_lt m n ≡ false
    not_above m n h = false_from_ne_true (nat_lt m n) (λ e. let less = ltb-true m n e in absurd (omega (arith, less, h)))

-- a system with these lists is the one with one name more
pub is_with_name : (s t : System) (name : Name) → t.names ≡ insert s.names (place_for name s.names) name → t.sets ≡ insert (map (option_map (moved_up (place_for name s.names))) s.sets) (place_for name s.names) None → t ≡ with_name s name
is_with_name s t name names_are sets_are = ap₂ (λ (ns : List Name) (fs : Fbas). record { names = ns; sets = fs }) names_are sets_are

-- ---- gathered one after another

abbrev pub items_of_name : Vec ℕ → List ℕ
items_of_name name = name.items

pub names_more : (names : List Name) (list : List (Vec ℕ)) (one : Vec ℕ) (i : ℕ) (name : Name) → i < length names → slice_get names i ≡ Some name → one.items ≡ name → map items_of_name list ≡ take i names → map items_of_name (list ++ one ∷ []) ≡ take (i + 1) names
names_more names list one i name low at is before =
    let here : slice_index_or names i name ≡ name = get_or_from_slice_get names i name name at in
    map-append items_of_name list (one ∷ [])
    ∙ ap₂ (λ (xs ys : List Name). xs ++ ys) before (ap (λ (n : Name). n ∷ []) is)
    ∙ sym (take_more names i name low ∙ ap (λ (n : Name). take i names ++ n ∷ []) here)

pub names_and_one : (names : List Name) (list : List (Vec ℕ)) (one : Vec ℕ) (i : ℕ) (name : Name) → length names ≤ i → one.items ≡ name → map items_of_name list ≡ take i names → map items_of_name (list ++ one ∷ []) ≡ names ++ name ∷ []
names_and_one names list one i name past is before =
    map-append items_of_name list (one ∷ []) ∙ ap₂ (λ (xs ys : List Name). xs ++ ys) (before ∙ take_all i names past) (ap (λ (n : Name). n ∷ []) is)

pub sets_moved_more : (p : ℕ) (sets : Fbas) (now : Fbas) (v : ℕ) (o m : Option QuorumSet) → v < length sets → slice_get sets v ≡ Some o → m ≡ option_map (moved_up p) o → now ≡ map (option_map (moved_up p)) (take v sets) → now ++ m ∷ [] ≡ map (option_map (moved_up p)) (take (v + 1) sets)
sets_moved_more p sets now v o m low at is before =
    let here : slice_index_or sets v o ≡ o = get_or_from_slice_get sets v o o at in
    ap₂ (λ (xs : Fbas) (x : Option QuorumSet). xs ++ x ∷ []) before is
    ∙ sym (map-append (option_map (moved_up p)) (take v sets) (o ∷ []))
    ∙ ap (map (option_map (moved_up p))) (sym (take_more sets v o low ∙ ap (λ (x : Option QuorumSet). take v sets ++ x ∷ []) here))

pub at_most_one : (b : Bool) → (if b then 1 else 0) ≤ 1
at_most_one true = omega arith
at_most_one false = omega arith
