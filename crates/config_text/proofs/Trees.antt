-- The trees of quorum sets and nodes by their lists: what is in them, that they have no float, and how deep they nest.
use Rattle.std.proofs.Common.{◌≡◌, ℕ, zero, suc, ◌+◌, ◌*◌, ◌≤◌, ◌<◌, max, true, false, not, ◌&&◌, ◌==◌, nat_le, List, [], ◌∷◌, ◌++◌, map, take, drop, length, Option, Some, None, option_map, slice_index_or, refl, sym, ap, ap₂, ◌∙◌, subst, arith}
use Rattle.std.specs.Prelude.{All, IfSome, slice_get}
use Rattle.std.proofs.Math.Nat.{max-le, le-max_left, le-max_right}
use Rattle.std.proofs.lemmas.List.{map-append, take_more, drop_more, drop_all}
use Rattle.std.proofs.lemmas.List.Elements.{All-head, All-tail, All-push}
use Rattle.std.proofs.lemmas.Bool.{and_parts, leb-true}
use Rattle.std.proofs.lemmas.Option.{get_or_from_slice_get}
use Rattle.std.proofs.lemmas.Str.{IsUtf8-from_ascii}
use Rattle.std.specs.Str.{IsUtf8}
use Rattle.std.specs.List.{list_all}
use Rattle.serde_json.specs.Data.{Data, string, array, Items, no_items, item, items_depth, depth}
use Rattle.serde_json.specs.View.{view, items_of}
use Rattle.serde_json.specs.Written.{has_float, items_have_float}
use Rattle.serde_json.specs.declared.value.Value.{Value}
use Rattle.fbas_model.specs.declared.TheConstants.{MOST_LEVELS}
use Rattle.fbas_model.specs.Names.{Name, is_key, is_key_byte}
use Rattle.fbas_model.specs.declared.TheConstants.{MOST_KEY_BYTES}
use Rattle.fbas_model.specs.Trees.{QuorumSet, quorum_set, Entries, none, node, inner}
use Rattle.fbas_model.specs.QuorumSets.{depth as levels, depth_of as levels_of}
use Rattle.fbas_model.specs.Fbas.{Fbas}
use Rattle.fbas_model.specs.Lists.{inner_entries, entries_of}
use Rattle.fbas_model.specs.Systems.{System, IsWithin, IsSystem}
use Rattle.node_json.specs.Named.{NamedSet, NamedSets, named_set, no_sets, one_set, NamedNode}
use Rattle.config_text.specs.Written.{name_of, validators_named, named, inner_named, nodes_by, nodes_named, node_with, bare_node, strings, set_with, set_data, sets_data, node_by, nodes_data, config_data, IsListed, HasNodesFirst, AreInner, IsNodeTree}

-- ---- a quorum set's two lists

-- the tree of a quorum set
abbrev pub tree_of_set : List Name → QuorumSet → Data
tree_of_set names q = set_data (named names q)

abbrev pub tree_of_name : List Name → ℕ → Data
tree_of_name names w = string (name_of names w)

pub items-strings : (names : List Name) (ws : List ℕ) → items_of (map (tree_of_name names) ws) ≡ strings (map (name_of names) ws)
items-strings names [] = refl
items-strings names (w ∷ ws) = ap (item (tree_of_name names w)) (items-strings names ws)

validators-lists : (names : List Name) (ws : List ℕ) (qs : List QuorumSet) → validators_named names (entries_of ws qs) ≡ map (name_of names) ws
validators-lists names [] [] = refl
validators-lists names [] (q ∷ qs) = validators-lists names [] qs
validators-lists names (w ∷ ws) qs = ap (λ (ns : List Name). name_of names w ∷ ns) (validators-lists names ws qs)

inners-lists : (names : List Name) (ws : List ℕ) (qs : List QuorumSet) → sets_data (inner_named names (entries_of ws qs)) ≡ items_of (map (tree_of_set names) qs)
inners-lists names [] [] = refl
inners-lists names [] (q ∷ qs) = ap (item (tree_of_set names q)) (inners-lists names [] qs)
inners-lists names (w ∷ ws) qs = inners-lists names ws qs

pub tree-lists : (names : List Name) (k : ℕ) (ws : List ℕ) (qs : List QuorumSet) (validators inners : Data) → validators ≡ array (strings (map (name_of names) ws)) → inners ≡ array (items_of (map (tree_of_set names) qs))
    → tree_of_set names (quorum_set k (entries_of ws qs)) ≡ set_with k validators inners
tree-lists names k ws qs validators inners v_is i_is = rw (v_is, i_is, validators-lists names ws qs, inners-lists names ws qs) refl

inner_listed : (qs : List QuorumSet) → All IsListed qs → AreInner (inner_entries qs)
inner_listed [] h = tt
inner_listed (q ∷ qs) h = (All-head IsListed q qs h, inner_listed qs (All-tail IsListed q qs h))

pub listed-lists : (ws : List ℕ) (qs : List QuorumSet) → All IsListed qs → HasNodesFirst (entries_of ws qs)
listed-lists [] [] h = tt
listed-lists [] (q ∷ qs) h = inner_listed (q ∷ qs) h
listed-lists (w ∷ ws) qs h = listed-lists ws qs h

-- ---- no float

strings_whole : (names : List Name) → items_have_float (strings names) ≡ false
strings_whole [] = refl
strings_whole (name ∷ names) = strings_whole names

mutual
  set_whole : (s : NamedSet) → has_float (set_data s) ≡ false
  set_whole (named_set k validators inners) = rw (sets_whole inners, strings_whole validators) refl

  sets_whole : (ss : NamedSets) → items_have_float (sets_data ss) ≡ false
  sets_whole no_sets = refl
  sets_whole (one_set s ss) = rw (set_whole s, sets_whole ss) refl

node_whole : (key : Name) (o : Option NamedSet) → has_float (node_by key o) ≡ false
node_whole key None = refl
node_whole key (Some s) = rw (set_whole s) refl

nodes_whole : (ns : List NamedNode) → items_have_float (nodes_data ns) ≡ false
nodes_whole [] = refl
nodes_whole (n ∷ ns) = rw (node_whole n.key n.quorum_set, nodes_whole ns) refl

pub config_whole : (ns : List NamedNode) → has_float (config_data ns) ≡ false
config_whole ns = nodes_whole ns

-- ---- depth

strings_shallow : (names : List Name) → items_depth (strings names) ≤ 0
strings_shallow [] = omega arith
strings_shallow (name ∷ names) = max-le (omega arith) (strings_shallow names)

mutual
  set_shallow : (names : List Name) (q : QuorumSet) → depth (tree_of_set names q) ≤ 2 * levels q
  set_shallow names (quorum_set k es) =
      let inner = inners_shallow names es in
      let validators = strings_shallow (validators_named names es) in
      let least : max (suc (items_depth (strings (validators_named names es)))) 0 ≤ suc (2 * levels_of es) = max-le (omega (arith, validators)) (omega arith) in
      let all : max (suc (items_depth (sets_data (inner_named names es)))) (max 0 (max (suc (items_depth (strings (validators_named names es)))) 0)) ≤ suc (2 * levels_of es) = max-le (omega (arith, inner)) (max-le (omega arith) least) in
      omega (arith, all)

  inners_shallow : (names : List Name) (es : Entries) → items_depth (sets_data (inner_named names es)) ≤ 2 * levels_of es
  inners_shallow names none = omega arith
  inners_shallow names (node w rest) = inners_shallow names rest
  inners_shallow names (inner q rest) =
      let left : levels q ≤ max (levels q) (levels_of rest) = le-max_left (levels q) (levels_of rest) in
      let right : levels_of rest ≤ max (levels q) (levels_of rest) = le-max_right (levels q) (levels_of rest) in
      max-le (omega (arith, set_shallow names q, left)) (omega (arith, inners_shallow names rest, right))

node_shallow : (n : ℕ) (names : List Name) (key : Name) (o : Option QuorumSet) → IfSome o (IsWithin n) → depth (node_by key (option_map (named names) o)) ≤ 1 + 2 * MOST_LEVELS
node_shallow n names key None within = omega arith
node_shallow n names key (Some q) within =
    let set : depth (tree_of_set names q) ≤ 2 * MOST_LEVELS = omega (arith, set_shallow names q, within.shallow) in
    let members : max 0 (max (depth (tree_of_set names q)) 0) ≤ 2 * MOST_LEVELS = max-le (omega arith) (max-le set (omega arith)) in
    omega (arith, members)

nodes_shallow : (n : ℕ) (names keys : List Name) (sets : Fbas) → All (λ o. IfSome o (IsWithin n)) sets → items_depth (nodes_data (nodes_by names keys sets)) ≤ 1 + 2 * MOST_LEVELS
nodes_shallow n names [] sets within = omega arith
nodes_shallow n names (key ∷ keys) [] within = omega arith
nodes_shallow n names (key ∷ keys) (o ∷ sets) within = max-le (node_shallow n names key o (All-head (λ o. IfSome o (IsWithin n)) o sets within)) (nodes_shallow n names keys sets (All-tail (λ o. IfSome o (IsWithin n)) o sets within))

pub config_shallow : (s : System) → IsSystem s.names s.sets → depth (config_data (nodes_named s)) ≤ 2 + 2 * MOST_LEVELS
config_shallow s is = let all = nodes_shallow (length s.names) s.names s.names s.sets is.within in omega (arith, all)

-- ---- the nodes, one after another

-- those from v on
abbrev pub nodes_after : System → ℕ → Items
nodes_after s v = nodes_data (nodes_by s.names (drop v s.names) (drop v s.sets))

pub node_next : (s : System) (v : ℕ) → v < length s.names → v < length s.sets → nodes_after s v ≡ item (node_by (name_of s.names v) (option_map (named s.names) (slice_index_or s.sets v None))) (nodes_after s (v + 1))
node_next s v name_low set_low = rw (drop_more s.names v [] name_low, drop_more s.sets v None set_low) refl

pub nodes_end : (s : System) (v : ℕ) → length s.names ≤ v → nodes_after s v ≡ no_items
nodes_end s v past = rw (drop_all v s.names past) refl

pub node_some : (s : System) (v : ℕ) (q : QuorumSet) (tree : Data) → slice_get s.sets v ≡ Some (Some q) → tree ≡ node_with (name_of s.names v) (tree_of_set s.names q) → IsListed q → IsNodeTree s v tree
node_some s v q tree at is listed =
    let here : slice_index_or s.sets v None ≡ Some q = get_or_from_slice_get s.sets v (Some q) None at in
    record { is = rw here is; listed = rw here listed }

pub node_none : (s : System) (v : ℕ) (tree : Data) → slice_get s.sets v ≡ Some None → tree ≡ bare_node (name_of s.names v) → IsNodeTree s v tree
node_none s v tree at is =
    let here : slice_index_or s.sets v None ≡ None = get_or_from_slice_get s.sets v None None at in
    record { is = rw here is; listed = rw here tt }

-- ---- values that are gathered

module _ (names : List Name) (qs : List QuorumSet) (i : ℕ) (q : QuorumSet) (low : i < length qs) (is : q ≡ slice_index_or qs i q) where
  one_more : take (i + 1) qs ≡ take i qs ++ q ∷ []
  one_more = take_more qs i q low ∙ ap (λ (x : QuorumSet). take i qs ++ x ∷ []) (sym is)

  pub sets_more : (vs : List Value) (v : Value) → view v ≡ tree_of_set names q → map view vs ≡ map (tree_of_set names) (take i qs) → map view (vs ++ v ∷ []) ≡ map (tree_of_set names) (take (i + 1) qs)
  sets_more vs v v_is before = map-append view vs (v ∷ []) ∙ ap₂ (λ (xs ys : List Data). xs ++ ys) before (ap (λ (d : Data). d ∷ []) v_is) ∙ sym (map-append (tree_of_set names) (take i qs) (q ∷ [])) ∙ ap (map (tree_of_set names)) (sym one_more)

  pub listed_more : All IsListed (take i qs) → IsListed q → All IsListed (take (i + 1) qs)
  listed_more before here = subst (λ (xs : List QuorumSet). All IsListed xs) (sym one_more) (All-push IsListed (take i qs) q before here)

pub names_more : (names : List Name) (ws : List ℕ) (i w : ℕ) (vs : List Value) (v : Value) → i < length ws → w ≡ slice_index_or ws i w → view v ≡ tree_of_name names w → map view vs ≡ map (tree_of_name names) (take i ws) → map view (vs ++ v ∷ []) ≡ map (tree_of_name names) (take (i + 1) ws)
names_more names ws i w vs v low is v_is before =
    let more : take (i + 1) ws ≡ take i ws ++ w ∷ [] = take_more ws i w low ∙ ap (λ (x : ℕ). take i ws ++ x ∷ []) (sym is) in
    map-append view vs (v ∷ []) ∙ ap₂ (λ (xs ys : List Data). xs ++ ys) before (ap (λ (d : Data). d ∷ []) v_is) ∙ sym (map-append (tree_of_name names) (take i ws) (w ∷ [])) ∙ ap (map (tree_of_name names)) (sym more)

pub all_listed_more : (sets : Fbas) (v : ℕ) → v < length sets → All (λ o. IfSome o IsListed) (take v sets) → IfSome (slice_index_or sets v None) IsListed → All (λ o. IfSome o IsListed) (take (v + 1) sets)
all_listed_more sets v low before here = subst (λ (xs : Fbas). All (λ o. IfSome o IsListed) xs) (sym (take_more sets v None low)) (All-push (λ o. IfSome o IsListed) (take v sets) (slice_index_or sets v None) before here)

-- ---- keys are ASCII

key_bytes : (name : List ℕ) (i : ℕ) → list_all is_key_byte name ≡ true → slice_index_or name i 0 < 128
key_bytes [] i h = omega arith
key_bytes (b ∷ bytes) zero h =
    let byte = (and_parts (is_key_byte b) (list_all is_key_byte bytes) h).0 in
    let low = (and_parts (nat_le 0x21 b && nat_le b 0x7E) (not (b == 44)) byte).0 in
    let most = leb-true b 0x7E (and_parts (nat_le 0x21 b) (nat_le b 0x7E) low).1 in
    omega (arith, most)
key_bytes (b ∷ bytes) (suc i) h = key_bytes bytes i (and_parts (is_key_byte b) (list_all is_key_byte bytes) h).1

pub key_is_text : (name : Name) → is_key name ≡ true → IsUtf8 name
key_is_text name h =
    let bytes = (and_parts (nat_le 1 (length name) && nat_le (length name) MOST_KEY_BYTES) (list_all is_key_byte name) h).1 in
    IsUtf8-from_ascii name (λ i. key_bytes name i bytes)
