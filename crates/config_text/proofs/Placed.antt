-- The system of the nodes that a system is written as.
use Rattle.std.proofs.Common.{◌≡◌, ℕ, zero, suc, ◌≤◌, ◌<◌, Bool, true, false, ◌||◌, List, [], ◌∷◌, ◌++◌, map, fold, length, Option, Some, None, option_map, Ok, Less, nat_lt, refl, sym, ap, ap₂, ◌∙◌, subst, arith, inl, inr, if◌then◌else◌}
use Rattle.std.specs.Prelude.{All, IfSome}
use Rattle.std.specs.List.{AllByRecursion}
use Rattle.std.specs.List.Sorted.{IsStrictlySortedBy}
use Rattle.std.specs.Str.{bytes_eq}
use Rattle.std.proofs.Math.Bool.{or_assoc}
use Rattle.std.proofs.Math.Nat.{le-max_left, le-max_right}
use Rattle.std.proofs.lemmas.Bool.{or_cases, or_left, or_right, false_from_ne_true, ltb-true, both_ways}
use Rattle.std.proofs.lemmas.List.Elements.{All-nil, All-cons, All-head, All-tail}
use Rattle.std.proofs.lemmas.Slice.Eq.{bytes_eq-Decides}
use Rattle.fbas_model.specs.declared.TheConstants.{MOST_NODES, MOST_ENTRIES, MOST_LEVELS}
use Rattle.fbas_model.specs.Names.{Name, name_cmp, is_among}
use Rattle.fbas_model.specs.Trees.{QuorumSet, quorum_set, Entries, none, node, inner}
use Rattle.fbas_model.specs.QuorumSets.{IsBelow, AreBelow, depth, depth_of}
use Rattle.fbas_model.specs.Fbas.{Fbas}
use Rattle.fbas_model.specs.Systems.{System, IsWithin, IsSystem, entries_in}
use Rattle.fbas_model.proofs.SortedNames.{place-found}
use Rattle.node_json.specs.Configuration.{number_of, nodes_then, numbered, all_numbered, names_in_set, names_in_sets, names_if_any, all_names, set_named, system_with, system_of}
use Rattle.node_json.specs.Named.{NamedSet, NamedNode}
use Rattle.node_json.specs.NamesInOrder.{in_order}
use Rattle.node_json.specs.Reading.{tree_of, nodes_of}
use Rattle.node_json.proofs.NamesInOrder.{apart, same_names, is_among-in_order, in_order-sorted}
use Rattle.config_text.specs.Written.{name_of, validators_named, named, inner_named, nodes_by, nodes_named, config_data, IsListed, HasNodesFirst, AreInner, AreListed}
use Rattle.config_text.proofs.ReadBack.{IsKey, EachReadable, IsReadable, AreFresh, IsReadableNode, config_back}

-- ---- quorum sets there and back

module _ (names : List Name) (sorted : IsStrictlySortedBy name_cmp names) where
  number_back : (w : ℕ) → w < length names → number_of names (name_of names w) ≡ w
  number_back w low = rw (place-found names (name_of names w) w sorted low refl) refl

  none_named : (es : Entries) → AreInner es → validators_named names es ≡ []
  none_named none h = refl
  none_named (node w rest) h = absurd h
  none_named (inner q rest) h = none_named rest h.1

  mutual
    set_numbered : (q : QuorumSet) → IsBelow (length names) q → IsListed q → numbered names (named names q) ≡ q
    set_numbered (quorum_set k es) below listed = ap (quorum_set k) (entries_numbered es below listed)

    entries_numbered : (es : Entries) → AreBelow (length names) es → HasNodesFirst es → nodes_then (map (number_of names) (validators_named names es)) (all_numbered names (inner_named names es)) ≡ es
    entries_numbered none below listed = refl
    entries_numbered (node w rest) below listed = ap₂ node (number_back w below.0) (entries_numbered rest below.1 listed)
    entries_numbered (inner q rest) below listed =
        ap (λ (vs : List Name). nodes_then (map (number_of names) vs) (all_numbered names (inner_named names (inner q rest)))) (none_named rest listed.1)
        ∙ ap₂ inner (set_numbered q below.0 listed.0) (inners_numbered rest below.1 listed.1)

    inners_numbered : (es : Entries) → AreBelow (length names) es → AreInner es → all_numbered names (inner_named names es) ≡ es
    inners_numbered none below listed = refl
    inners_numbered (node w rest) below listed = absurd listed
    inners_numbered (inner q rest) below listed = ap₂ inner (set_numbered q below.0 listed.0) (inners_numbered rest below.1 listed.1)

  option_numbered : (o : Option QuorumSet) → IfSome o (IsWithin (length names)) → IfSome o IsListed → option_map (numbered names) (option_map (named names) o) ≡ o
  option_numbered None within listed = refl
  option_numbered (Some q) within listed = ap Some (set_numbered q within.below listed)

-- ---- each at its place

flipped : (x y : Name) → bytes_eq x y ≡ false → bytes_eq y x ≡ false
flipped x y h = false_from_ne_true (bytes_eq y x) (λ e. both_ways (bytes_eq x y) h ((bytes_eq-Decides x y).1 (sym ((bytes_eq-Decides y x).0 e))))

same_bytes : (x : Name) → bytes_eq x x ≡ true
same_bytes x = (bytes_eq-Decides x x).1 refl

abbrev found : Name → Option NamedSet → NamedNode → Option NamedSet
found name before n = if bytes_eq n.key name then n.quorum_set else before

found_stays : (names : List Name) (name : Name) (before : Option NamedSet) (keys : List Name) (sets : Fbas) → AllByRecursion (λ z. name_cmp name z ≡ Less) keys → fold (found name) before (nodes_by names keys sets) ≡ before
found_stays names name before [] sets h = refl
found_stays names name before (key ∷ keys) [] h = refl
found_stays names name before (key ∷ keys) (o ∷ sets) h =
    let other : bytes_eq key name ≡ false = flipped name key (apart name key h.0) in
    ap (λ (b : Bool). fold (found name) (if b then option_map (named names) o else before) (nodes_by names keys sets)) other ∙ found_stays names name before keys sets h.1

abbrev BothFit : List Name → Option QuorumSet → Type 0
BothFit names o = IfSome o (IsWithin (length names)) × IfSome o IsListed

placed : (names : List Name) → IsStrictlySortedBy name_cmp names → (start : Name → Option NamedSet) (keys : List Name) (sets : Fbas) → length sets ≡ length keys → IsStrictlySortedBy name_cmp keys → All (BothFit names) sets
    → map (λ key. option_map (numbered names) (fold (found key) (start key) (nodes_by names keys sets))) keys ≡ sets
unfolding IsStrictlySortedBy
placed names sorted start [] [] same rising fit = refl
placed names sorted start [] (o ∷ sets) same rising fit = absurd (omega (arith, same))
placed names sorted start (key ∷ keys) [] same rising fit = absurd (omega (arith, same))
placed names sorted start (key ∷ keys) (o ∷ sets) same rising fit =
    let one = All-head (BothFit names) o sets fit in
    let here : fold (found key) (start key) (nodes_by names (key ∷ keys) (o ∷ sets)) ≡ option_map (named names) o =
    ap (λ (b : Bool). fold (found key) (if b then option_map (named names) o else start key) (nodes_by names keys sets)) (same_bytes key) ∙ found_stays names key (option_map (named names) o) keys sets rising.0 in
    let first : option_map (numbered names) (fold (found key) (start key) (nodes_by names (key ∷ keys) (o ∷ sets))) ≡ o = ap (option_map (numbered names)) here ∙ option_numbered names sorted o one.0 one.1 in
    let rest = placed names sorted (λ name. found name (start name) (record { key = key; quorum_set = option_map (named names) o })) keys sets (omega (arith, same)) rising.1 (All-tail (BothFit names) o sets fit) in
    ap₂ (λ (x : Option QuorumSet) (xs : Fbas). x ∷ xs) first rest

-- ---- which names there are

pub among-append : (k : Name) (xs ys : List Name) → is_among k (xs ++ ys) ≡ (is_among k xs || is_among k ys)
among-append k [] ys = refl
among-append k (x ∷ xs) ys = ap (λ b. bytes_eq k x || b) (among-append k xs ys) ∙ sym (or_assoc (bytes_eq k x) (is_among k xs) (is_among k ys))

-- each of the names is among the others
abbrev Among : List Name → List Name → Type 0
Among xs ys = (k : Name) → is_among k xs ≡ true → is_among k ys ≡ true

among_cons : (x : Name) (xs ys : List Name) → is_among x ys ≡ true → Among xs ys → Among (x ∷ xs) ys
among_cons x xs ys here later k h = elim (or_cases (bytes_eq k x) (is_among k xs) h) [
  | inl e ↦ subst (λ (n : Name). is_among n ys ≡ true) (sym ((bytes_eq-Decides k x).0 e)) here
  | inr e ↦ later k e
]

among_append : (xs ws ys : List Name) → Among xs ys → Among ws ys → Among (xs ++ ws) ys
among_append xs ws ys f g k h = elim (or_cases (is_among k xs) (is_among k ws) (sym (among-append k xs ws) ∙ h)) [ inl e ↦ f k e | inr e ↦ g k e ]

among_none : (ys : List Name) → Among [] ys
among_none ys k h = absurd cc

at_among : (names : List Name) (w : ℕ) → w < length names → is_among (name_of names w) names ≡ true
at_among [] w low = absurd (omega (arith, low))
at_among (n ∷ names) zero low = or_left (bytes_eq n n) (is_among n names) (same_bytes n)
at_among (n ∷ names) (suc w) low = or_right (bytes_eq (name_of names w) n) (is_among (name_of names w) names) (at_among names w (omega (arith, low)))

validators_among : (names : List Name) (es : Entries) → AreBelow (length names) es → Among (validators_named names es) names
validators_among names none below = among_none names
validators_among names (node w rest) below = among_cons (name_of names w) (validators_named names rest) names (at_among names w below.0) (validators_among names rest below.1)
validators_among names (inner q rest) below = validators_among names rest below.1

mutual
  set_among : (names : List Name) (q : QuorumSet) → IsBelow (length names) q → Among (names_in_set (named names q)) names
  set_among names (quorum_set k es) below = among_append (validators_named names es) (names_in_sets (inner_named names es)) names (validators_among names es below) (inners_among names es below)

  inners_among : (names : List Name) (es : Entries) → AreBelow (length names) es → Among (names_in_sets (inner_named names es)) names
  inners_among names none below = among_none names
  inners_among names (node w rest) below = inners_among names rest below.1
  inners_among names (inner q rest) below = among_append (names_in_set (named names q)) (names_in_sets (inner_named names rest)) names (set_among names q below.0) (inners_among names rest below.1)

option_among : (names : List Name) (o : Option QuorumSet) → IfSome o (IsWithin (length names)) → Among (names_if_any (option_map (named names) o)) names
option_among names None within = among_none names
option_among names (Some q) within = set_among names q within.below

nodes_among : (names keys : List Name) (sets : Fbas) → Among keys names → All (BothFit names) sets → Among (all_names (nodes_by names keys sets)) names
nodes_among names [] sets inside fit = among_none names
nodes_among names (key ∷ keys) [] inside fit = among_none names
nodes_among names (key ∷ keys) (o ∷ sets) inside fit =
    let one = All-head (BothFit names) o sets fit in
    among_append (key ∷ names_if_any (option_map (named names) o)) (all_names (nodes_by names keys sets)) names
    (among_cons key (names_if_any (option_map (named names) o)) names (inside key (or_left (bytes_eq key key) (is_among key keys) (same_bytes key))) (option_among names o one.0))
    (nodes_among names keys sets (λ k h. inside k (or_right (bytes_eq k key) (is_among k keys) h)) (All-tail (BothFit names) o sets fit))

keys_among : (names keys : List Name) (sets : Fbas) → length sets ≡ length keys → Among keys (all_names (nodes_by names keys sets))
keys_among names [] sets same = among_none (all_names (nodes_by names [] sets))
keys_among names (key ∷ keys) [] same = absurd (omega (arith, same))
keys_among names (key ∷ keys) (o ∷ sets) same =
    let of = names_if_any (option_map (named names) o) in
    let rest = all_names (nodes_by names keys sets) in
    among_cons key keys ((key ∷ of) ++ rest) (or_left (bytes_eq key key) (is_among key (of ++ rest)) (same_bytes key))
    (λ k h. or_right (bytes_eq k key) (is_among k (of ++ rest)) (among-append k of rest ∙ or_right (is_among k of) (is_among k rest) (keys_among names keys sets (omega (arith, same)) k h)))

same_bool : (x y : Bool) → (x ≡ true → y ≡ true) → (y ≡ true → x ≡ true) → x ≡ y
same_bool true y to from = sym (to refl)
same_bool false true to from = from refl
same_bool false false to from = refl

names_are : (names : List Name) (sets : Fbas) → IsStrictlySortedBy name_cmp names → length sets ≡ length names → All (BothFit names) sets → in_order (all_names (nodes_by names names sets)) ≡ names
names_are names sets sorted same fit =
    let all = all_names (nodes_by names names sets) in
    same_names (in_order all) names (in_order-sorted all) sorted
    (λ k. is_among-in_order k all ∙ same_bool (is_among k all) (is_among k names) (nodes_among names names sets (λ x h. h) fit k) (keys_among names names sets same k))

-- ---- the limits, and what is read

not_above : (m n : ℕ) → n ≤ m → nat_lt m n ≡ false
not_above m n h = false_from_ne_true (nat_lt m n) (λ e. let less = ltb-true m n e in absurd (omega (arith, less, h)))

both_fit : (names : List Name) (sets : Fbas) → All (λ o. IfSome o (IsWithin (length names))) sets → AreListed sets → All (BothFit names) sets
both_fit names sets within listed k d low = (within k d low, listed k d low)

system_back : (s : System) → IsSystem s.names s.sets → IsStrictlySortedBy name_cmp s.names → AreListed s.sets → system_with (nodes_named s) ≡ Ok s
unfolding system_with
system_back s is sorted listed =
    let fit = both_fit s.names s.sets is.within listed in
    let sets_are : map (λ name. option_map (numbered s.names) (set_named (nodes_named s) name)) s.names ≡ s.sets = placed s.names sorted (λ name. None) s.names s.sets is.places sorted fit in
    rw (names_are s.names s.sets sorted is.places fit) (rw (not_above MOST_NODES (length s.names) is.few, sets_are) (rw (not_above MOST_ENTRIES (entries_in s.sets) is.entries) refl))

-- ---- readable nodes

keys_named : (names : List Name) → All IsKey names → (es : Entries) → AreBelow (length names) es → All IsKey (validators_named names es)
keys_named names keys none below = All-nil IsKey
keys_named names keys (node w rest) below = All-cons IsKey (name_of names w) (validators_named names rest) (keys w [] below.0) (keys_named names keys rest below.1)
keys_named names keys (inner q rest) below = keys_named names keys rest below.1

mutual
  readable : (names : List Name) → All IsKey names → (levels : ℕ) (q : QuorumSet) → IsBelow (length names) q → depth q ≤ levels → IsReadable levels (named names q)
  readable names keys zero (quorum_set k es) below low = absurd (omega (arith, low))
  readable names keys (suc levels) (quorum_set k es) below low = (keys_named names keys es below, inners_readable names keys levels es below (omega (arith, low)))

  inners_readable : (names : List Name) → All IsKey names → (levels : ℕ) (es : Entries) → AreBelow (length names) es → depth_of es ≤ levels → EachReadable (IsReadable levels) (inner_named names es)
  inners_readable names keys levels none below low = tt
  inners_readable names keys levels (node w rest) below low = inners_readable names keys levels rest below.1 low
  inners_readable names keys levels (inner q rest) below low =
      let left = le-max_left (depth q) (depth_of rest) in
      let right = le-max_right (depth q) (depth_of rest) in
      (readable names keys levels q below.0 (omega (arith, left, low)), inners_readable names keys levels rest below.1 (omega (arith, right, low)))

option_readable : (names : List Name) → All IsKey names → (o : Option QuorumSet) → IfSome o (IsWithin (length names)) → IfSome (option_map (named names) o) (IsReadable MOST_LEVELS)
option_readable names keys None within = tt
option_readable names keys (Some q) within = readable names keys MOST_LEVELS q within.below within.shallow

nodes_readable : (names : List Name) → All IsKey names → (ks : List Name) (sets : Fbas) → All IsKey ks → All (BothFit names) sets → All IsReadableNode (nodes_by names ks sets)
nodes_readable names keys [] sets own fit = All-nil IsReadableNode
nodes_readable names keys (k ∷ ks) [] own fit = All-nil IsReadableNode
nodes_readable names keys (k ∷ ks) (o ∷ sets) own fit =
    All-cons IsReadableNode (record { key = k; quorum_set = option_map (named names) o }) (nodes_by names ks sets)
    (record { key = All-head IsKey k ks own; set = option_readable names keys o (All-head (BothFit names) o sets fit).0 })
    (nodes_readable names keys ks sets (All-tail IsKey k ks own) (All-tail (BothFit names) o sets fit))

-- none of the keys is one of those before
abbrev AreBefore : List Name → List Name → Type 0
AreBefore earlier keys = AllByRecursion (λ k. is_among k earlier ≡ false) keys

before_more : (earlier : List Name) (k : Name) (ks : List Name) → AllByRecursion (λ z. name_cmp k z ≡ Less) ks → AreBefore earlier ks → AreBefore (earlier ++ k ∷ []) ks
before_more earlier k [] less before = tt
before_more earlier k (z ∷ ks) less before = (
  among-append z earlier (k ∷ []) ∙ rw (before.0, flipped k z (apart k z less.0)) refl,
  before_more earlier k ks less.1 before.1,
)

fresh_nodes : (names earlier ks : List Name) (sets : Fbas) → IsStrictlySortedBy name_cmp ks → AreBefore earlier ks → AreFresh earlier (nodes_by names ks sets)
unfolding IsStrictlySortedBy
fresh_nodes names earlier [] sets sorted before = tt
fresh_nodes names earlier (k ∷ ks) [] sorted before = tt
fresh_nodes names earlier (k ∷ ks) (o ∷ sets) sorted before = (before.0, fresh_nodes names (earlier ++ k ∷ []) ks sets sorted.1 (before_more earlier k ks sorted.0 before.1))

none_before : (ks : List Name) → AreBefore [] ks
none_before [] = tt
none_before (k ∷ ks) = (refl, none_before ks)

pub reads_back : (s : System) (bytes : List ℕ) → IsSystem s.names s.sets → IsStrictlySortedBy name_cmp s.names → AreListed s.sets → tree_of bytes ≡ Some (config_data (nodes_named s)) → system_of bytes ≡ Ok s
unfolding system_of nodes_of
reads_back s bytes is sorted listed tree =
    let fit = both_fit s.names s.sets is.within listed in
    let nodes = config_back (nodes_named s) (nodes_readable s.names is.keys s.names s.sets is.keys fit) (fresh_nodes s.names [] s.names s.sets sorted (none_before s.names)) in
    rw tree (rw nodes (system_back s is sorted listed))
