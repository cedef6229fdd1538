-- The system of nodes within the limits, and what it keeps.
use Rattle.std.proofs.Common.{◌≡◌, ℕ, ◌<◌, ◌≤◌, List, [], ◌∷◌, length, map, fold, get_or, Option, Some, None, option_map, unwrap_or, Bool, true, false, not, cond, nat_lt, if◌then◌else◌, Result, Ok, Err, All, IfSome, IsTrue, refl, sym, ap, subst, ◌∙◌, arith}
use Rattle.std.proofs.lemmas.Bool.{lt-ltb, le-ltb, ltb-true, cond_both}
use Rattle.std.proofs.lemmas.List.{length-map}
use Rattle.std.proofs.lemmas.List.Elements.{All-map, All-head, All-tail}
use Rattle.std.specs.List.{prefix_len}
use Rattle.std.specs.Str.{bytes_eq}
use denote.Ref.{Bor}
use Rattle.fbas_model.specs.declared.TheConstants.{MOST_NODES, MOST_ENTRIES}
use Rattle.fbas_model.specs.Fbas.{Fbas}
use Rattle.fbas_model.specs.Names.{Name, AreNamesOf, is_key}
use Rattle.fbas_model.specs.QuorumSets.{IsBelow, AreBelow}
use Rattle.fbas_model.specs.Systems.{System, IsSystem, IsWithin, entries_in}
use Rattle.fbas_model.specs.Trees.{Entries}
use Rattle.node_json.proofs.NamesInOrder.{names_in_order, in_order-in_order, All-in_order}
use Rattle.node_json.specs.Configuration.{number_of, nodes_then, numbered, all_numbered, all_names, set_named, system_by, within_entries, within_nodes, system_with, system_of}
use Rattle.serde_json.specs.Data.{Data}
use Rattle.node_json.specs.Reading.{and_then, nodes_in, nodes_of}
use Rattle.node_json.specs.Named.{NamedSet, NamedSets, named_set, no_sets, one_set, NamedNode}
use Rattle.node_json.specs.NamesInOrder.{in_order}
use Rattle.node_json.specs.Sound.{AreSound, IsShallow}
use Rattle.node_json.specs.View.{names_view}
use Rattle.node_json.specs.declared.faults.ConfigFault.{ConfigFault}
use Rattle.node_json.specs.declared.faults.ConfigFault.TheVariants.{TooManyNodes, TooManyEntries}

-- ---- each number is that of a node

number_of-below : (names : List Name) (name : Name) → 0 < length names → number_of names name < length names
number_of-below names name h = by_test (nat_lt at (length names)) refl
  where
    at : ℕ
    at = prefix_len (λ n. not (bytes_eq n name)) names

    by_test : (b : Bool) → nat_lt at (length names) ≡ b → unwrap_or {T = ℕ} (cond b (Some at) None) 0 < length names
    by_test true e = ltb-true at (length names) e
    by_test false e = h

module _ (names : List Name) (some : 0 < length names) where
  nodes_then-below : (vs : List Name) (rest : Entries) → AreBelow (length names) rest → AreBelow (length names) (nodes_then (map (number_of names) vs) rest)
  nodes_then-below [] rest h = h
  nodes_then-below (v ∷ vs) rest h = (number_of-below names v some, nodes_then-below vs rest h)

  mutual
    numbered-below : (s : NamedSet) → IsBelow (length names) (numbered names s)
    numbered-below (named_set threshold validators inners) = nodes_then-below validators (all_numbered names inners) (all_numbered-below inners)

    all_numbered-below : (ss : NamedSets) → AreBelow (length names) (all_numbered names ss)
    all_numbered-below no_sets = tt
    all_numbered-below (one_set s ss) = (numbered-below s, all_numbered-below ss)

-- ---- what a system keeps

-- what each quorum set of the nodes has, each that a name declares has
named-has : (P : NamedSet → Type 0) (nodes : List NamedNode) (found : Option NamedSet) (name : Name) → IfSome found P → All (λ n. IfSome n.quorum_set P) nodes
    → IfSome (fold (λ found n. if bytes_eq n.key name then n.quorum_set else found) found nodes) P
named-has P [] found name h all = h
named-has P (n ∷ ns) found name h all =
    named-has P ns (if bytes_eq n.key name then n.quorum_set else found) name
    (cond_both (bytes_eq n.key name) n.quorum_set found (λ o. IfSome o P) (λ _. All-head (λ m. IfSome m.quorum_set P) n ns all) (λ _. h)) (All-tail (λ m. IfSome m.quorum_set P) n ns all)

within-numbered : (names : List Name) (o : Option NamedSet) → 0 < length names → IfSome o IsShallow → IfSome (option_map (numbered names) o) (IsWithin (length names))
within-numbered names None some h = h
within-numbered names (Some s) some h = record { below = numbered-below names some s; shallow = h names }

-- the quorum set of each name, by the nodes
abbrev pub declared_sets : List Name → List NamedNode → Fbas
declared_sets names nodes = map (λ name. option_map (numbered names) (set_named nodes name)) names

pub is_system : (nodes : List NamedNode) (names : List Name) (sets : Fbas) → AreSound nodes → names ≡ in_order (all_names nodes) → sets ≡ declared_sets names nodes
    → length names ≤ MOST_NODES → entries_in sets ≤ MOST_ENTRIES → IsSystem names sets
is_system nodes names sets sound n s few entries = record {
  places = ap length s ∙ length-map names (λ name. option_map (numbered names) (set_named nodes name));
  keys = subst (All (λ name. IsTrue (is_key name))) (sym n) (All-in_order (λ name. IsTrue (is_key name)) (all_names nodes) sound.keys);
  few = few;
  within = subst (All (λ o. IfSome o (IsWithin (length names)))) (sym s) (All-map (λ o. IfSome o (IsWithin (length names))) (λ name. option_map (numbered names) (set_named nodes name)) names (λ k d h.
      within-numbered names (set_named nodes (get_or names k d)) (omega arith) (named-has IsShallow nodes None (get_or names k d) tt sound.shallow)));
  entries = entries;
}

-- ---- the limits, one after another

pub too_many_nodes : (nodes : List NamedNode) (found : List Name) (n : ℕ) → found ≡ in_order (all_names nodes) → n ≡ length found → MOST_NODES < n → system_with nodes ≡ Err (TooManyNodes n)
unfolding system_with
too_many_nodes nodes found n f e over =
    let big : nat_lt MOST_NODES (length found) ≡ true = lt-ltb MOST_NODES (length found) (omega arith) in
    ap (λ names. within_nodes names nodes) (sym f) ∙ rw big (ap (λ k. Err (TooManyNodes k)) (sym e))

pub few_nodes : (nodes : List NamedNode) (names : List Name) → names ≡ in_order (all_names nodes) → length names ≤ MOST_NODES → system_with nodes ≡ within_entries (system_by names nodes)
unfolding system_with
few_nodes nodes names f few =
    let small : nat_lt MOST_NODES (length names) ≡ false = le-ltb MOST_NODES (length names) few in
    ap (λ names. within_nodes names nodes) (sym f) ∙ rw small

pub too_many_entries : (nodes : List NamedNode) (names : List Name) (sets : Fbas) (n : ℕ) → sets ≡ declared_sets names nodes → n ≡ entries_in sets → MOST_ENTRIES < n → within_entries (system_by names nodes) ≡ Err (TooManyEntries n)
too_many_entries nodes names sets n s e over =
    let big : nat_lt MOST_ENTRIES (entries_in sets) ≡ true = lt-ltb MOST_ENTRIES (entries_in sets) (omega arith) in
    rw (← s, big) (ap (λ k. Err (TooManyEntries k)) (sym e))

pub few_entries : (nodes : List NamedNode) (names : List Name) (sets : Fbas) (system : System) → system.names ≡ names → system.sets ≡ sets → sets ≡ declared_sets names nodes → entries_in sets ≤ MOST_ENTRIES
    → within_entries (system_by names nodes) ≡ Ok system
few_entries nodes names sets system same_names same_sets s few =
    let small : nat_lt MOST_ENTRIES (entries_in sets) ≡ false = le-ltb MOST_ENTRIES (entries_in sets) few in
    rw (← s, small) (λ i. Ok (record { names = sym same_names i; sets = sym same_sets i }))

-- the names that are made of those found
-- the names that were gathered, as they are owned: in order, and few if there were few
pub owned_names : (nodes : List NamedNode) (found : List (Bor (List ℕ))) (names : List Name) (n : ℕ) → names_view found ≡ in_order (all_names nodes) → AreNamesOf (names_view found) names → n ≡ length found → n ≤ MOST_NODES
    → (names ≡ in_order (all_names nodes)) × (length names ≤ MOST_NODES)
owned_names nodes found names n f are e few =
    let ordered : names ≡ in_order (all_names nodes) = names_in_order (names_view found) names are ∙ ap in_order f ∙ in_order-in_order (all_names nodes) in
    let same : length names ≡ length found = ap length (ordered ∙ sym f) ∙ length-map found (λ name. name.now) in
    (ordered, omega arith)

-- ---- the bytes

pub system_of-fault : (bytes : List ℕ) (e : ConfigFault) → nodes_of bytes ≡ Err e → system_of bytes ≡ Err e
unfolding system_of
system_of-fault bytes e h = rw h refl

pub system_of-tree : (bytes : List ℕ) (d : Data) → nodes_of bytes ≡ nodes_in d → system_of bytes ≡ and_then system_with (nodes_in d)
unfolding system_of
system_of-tree bytes d h = rw h refl

pub nodes_in-then : (d : Data) (r : Result (List NamedNode) ConfigFault) → nodes_in d ≡ r → and_then system_with (nodes_in d) ≡ and_then system_with r
nodes_in-then d r h = ap (and_then system_with) h
