-- The loop over the nodes, step by step, and what comes before it.
use Rattle.std.proofs.Common.{◌≡◌, ℕ, ◌+◌, ◌<◌, List, [], ◌∷◌, ◌++◌, length, drop, get_or, map, Option, Some, None, ok_or, Result, Ok, Err, true, false, not, refl, sym, ap, ◌∙◌, append_assoc, codes}
use Rattle.std.proofs.lemmas.Bool.{false_from_ne_true}
use Rattle.std.proofs.lemmas.List.{at_drop_more, map-append}
use Rattle.std.proofs.lemmas.List.Sums.{fold-append}
use Rattle.std.proofs.lemmas.Str.{IsUtf8-from_is_utf8, is_utf8-from_IsUtf8}
use Rattle.std.specs.BTreeSet.{insert_key}
use Rattle.std.specs.Str.{IsUtf8, is_utf8}
use Rattle.serde_json.specs.Data.{Data, Items, item}
use Rattle.serde_json.specs.Find.{as_array, get}
use Rattle.serde_json.specs.Read.{read}
use Rattle.node_json.specs.Tree.{Tree, view, items_view}
use Rattle.node_json.specs.Named as spec
use Rattle.fbas_model.specs.declared.TheConstants.{MOST_LEVELS}
use Rattle.fbas_model.specs.Names.{Name, name_cmp, is_among}
use Rattle.node_json.specs.NamesInOrder.{in_order, with_names}
use Rattle.node_json.proofs.NamesInOrder.{is_among-in_order}
use Rattle.node_json.specs.Reading.{after, and_then, unless, or_missing, set_of, tree_of, nodes_of, nodes_in, nodes_from, node_of, node_key_of, node_set_of}
use Rattle.node_json.specs.View.{node_view, nodes_view}
use Rattle.node_json.specs.declared.faults.ConfigFault.{ConfigFault}
use Rattle.node_json.specs.declared.faults.ConfigFault.TheVariants.{NotJson, NotNodes, Duplicate}
use Rattle.node_json.specs.declared.nodes.NamedNode.{NamedNode}

-- ---- the tree

pub tree_of-text : (bytes : List ℕ) → IsUtf8 bytes → tree_of bytes ≡ read bytes
unfolding tree_of
tree_of-text bytes u = rw (is_utf8-from_IsUtf8 bytes u) refl

pub tree_of-no_text : (bytes : List ℕ) → (IsUtf8 bytes → ⊥) → tree_of bytes ≡ None
unfolding tree_of
tree_of-no_text bytes not_text = rw (false_from_ne_true (is_utf8 bytes) (λ t. not_text (IsUtf8-from_is_utf8 bytes t))) refl

pub nodes_of-no_tree : (bytes : List ℕ) → tree_of bytes ≡ None → nodes_of bytes ≡ Err NotJson
unfolding nodes_of
nodes_of-no_tree bytes e = rw e refl

pub nodes_of-tree : (bytes : List ℕ) (d : Data) → tree_of bytes ≡ Some d → nodes_of bytes ≡ nodes_in d
unfolding nodes_of
nodes_of-tree bytes d e = rw e refl

pub nodes_in-top : (d : Data) (top : Option Items) → as_array d ≡ top → nodes_in d ≡ and_then (nodes_from 0 []) (ok_or top NotNodes)
unfolding nodes_in
nodes_in-top d top a = rw a refl

-- ---- the quorum set of a node

pub node_set-read : (i : ℕ) (d set : Data) (r : Result spec.NamedSet ConfigFault) → or_missing (get (codes "quorumSet") d) ≡ Some set → set_of i MOST_LEVELS set ≡ r → node_set_of i d ≡ after Some r
node_set-read i d set r m e = rw (m, e) refl

-- ---- the keys

abbrev pub keys_of : List NamedNode → List Name
keys_of nodes = map (λ node. node.key.now) nodes

-- an element is read alike where the keys that were seen stand in order
pub node_of-seen : (i : ℕ) (seen earlier : List Name) (d : Data) → seen ≡ in_order earlier → node_of i seen d ≡ node_of i earlier d
node_of-seen i seen earlier d s = ap (λ ks. node_of i ks d) s ∙ by_key (node_key_of i d)
  where
    by_key : (r : Result Name ConfigFault) → and_then {B = spec.NamedNode} (λ key. unless (Duplicate i) (not (is_among key (in_order earlier))) (after (λ set. record { key = key; quorum_set = set }) (node_set_of i d))) r ≡ and_then {B = spec.NamedNode} (λ key. unless (Duplicate i) (not (is_among key earlier)) (after (λ set. record { key = key; quorum_set = set }) (node_set_of i d))) r
    by_key (Ok key) = ap (λ b. unless (Duplicate i) (not b) (after (λ set. record { key = key; quorum_set = set }) (node_set_of i d))) (is_among-in_order key earlier)
    by_key (Err e) = refl

pub node_of-known : (i : ℕ) (earlier : List Name) (d : Data) (k : Name) → node_key_of i d ≡ Ok k → not (is_among k earlier) ≡ false → node_of i earlier d ≡ Err (Duplicate i)
node_of-known i earlier d k ek known = rw (ek, known) refl

pub node_of-key_fault : (i : ℕ) (earlier : List Name) (d : Data) (e : ConfigFault) → node_key_of i d ≡ Err e → node_of i earlier d ≡ Err e
node_of-key_fault i earlier d e fault = rw fault refl

pub node_of-read : (i : ℕ) (earlier : List Name) (d : Data) (k : Name) (o : Option spec.NamedSet) → node_key_of i d ≡ Ok k → not (is_among k earlier) ≡ true → node_set_of i d ≡ Ok o
    → node_of i earlier d ≡ Ok (record { key = k; quorum_set = o })
node_of-read i earlier d k o ek new es = rw (ek, new, es) refl

-- one more node that was read
nodes_from-one : (i : ℕ) (done : List NamedNode) (n : NamedNode) (d : Data) (ds : Items) → node_of i (keys_of done) d ≡ Ok (node_view n)
    → after (λ more. nodes_view done ++ more) (nodes_from i (keys_of done) (item d ds)) ≡ after (λ more. nodes_view (done ++ n ∷ []) ++ more) (nodes_from (i + 1) (keys_of (done ++ n ∷ [])) ds)
nodes_from-one i done n d ds e = rw e (rw (map-append (λ node. node.key.now) done (n ∷ [])) (after_one (nodes_from (i + 1) (keys_of done ++ n.key.now ∷ []) ds)))
  where
    after_one : (r : Result (List spec.NamedNode) ConfigFault) → after (λ more. nodes_view done ++ more) (after (λ nodes. node_view n ∷ nodes) r) ≡ after (λ more. nodes_view (done ++ n ∷ []) ++ more) r
    after_one (Ok more) = ap Ok (sym (ap (λ ns. ns ++ more) (map-append node_view done (n ∷ [])) ∙ append_assoc (nodes_view done) (node_view n ∷ []) more))
    after_one (Err e) = refl

-- a step of the loop over the nodes, and its end
pub nodes_loop : (all : Result (List spec.NamedNode) ConfigFault) (done more : List NamedNode) (n : NamedNode) (xs : List Tree) (i : ℕ) (v : Tree) → i < length xs → v ≡ get_or xs i v
    → node_of i (keys_of done) (view v) ≡ Ok (node_view n) → more ≡ done ++ n ∷ [] → all ≡ after (λ m. nodes_view done ++ m) (nodes_from i (keys_of done) (items_view (drop i xs)))
    → all ≡ after (λ m. nodes_view more ++ m) (nodes_from (i + 1) (keys_of more) (items_view (drop (i + 1) xs)))
nodes_loop all done more n xs i v h is e m inv =
    let rest = items_view (drop (i + 1) xs) in
    inv ∙ at_drop_more (λ vs. after (λ m. nodes_view done ++ m) (nodes_from i (keys_of done) (items_view vs))) xs i v h ∙ ap (λ w. after (λ m. nodes_view done ++ m) (nodes_from i (keys_of done) (item (view w) rest))) (sym is)
    ∙ nodes_from-one i done n (view v) rest e ∙ ap (λ ns. after (λ m. nodes_view ns ++ m) (nodes_from (i + 1) (keys_of ns) rest)) (sym m)

-- an element that has a fault is the first
pub nodes_fault : (all : Result (List spec.NamedNode) ConfigFault) (done : List NamedNode) (xs : List Tree) (i : ℕ) (v : Tree) (e : ConfigFault) → i < length xs → v ≡ get_or xs i v → node_of i (keys_of done) (view v) ≡ Err e
    → all ≡ after (λ m. nodes_view done ++ m) (nodes_from i (keys_of done) (items_view (drop i xs))) → all ≡ Err e
nodes_fault all done xs i v e h is fault inv =
    inv ∙ at_drop_more (λ vs. after (λ m. nodes_view done ++ m) (nodes_from i (keys_of done) (items_view vs))) xs i v h
    ∙ ap (λ w. after (λ m. nodes_view done ++ m) (nodes_from i (keys_of done) (item (view w) (items_view (drop (i + 1) xs))))) (sym is) ∙ rw fault refl

pub node_of-set_fault : (i : ℕ) (earlier : List Name) (d : Data) (k : Name) (e : ConfigFault) → node_key_of i d ≡ Ok k → not (is_among k earlier) ≡ true → node_set_of i d ≡ Err e → node_of i earlier d ≡ Err e
node_of-set_fault i earlier d k e ek new es = rw (ek, new, es) refl

-- the keys that were seen, with one more
pub seen_loop : (seen more : List Name) (done then : List NamedNode) (n : NamedNode) → then ≡ done ++ n ∷ [] → more ≡ with_names seen (n.key.now ∷ []) → seen ≡ in_order (keys_of done) → more ≡ in_order (keys_of then)
seen_loop seen more done then n t m s =
    let grown : keys_of then ≡ keys_of done ++ n.key.now ∷ [] = ap keys_of t ∙ map-append (λ node. node.key.now) done (n ∷ []) in
    m ∙ ap (λ ks. with_names ks (n.key.now ∷ [])) s ∙ sym (ap in_order grown ∙ fold-append (insert_key name_cmp) [] (keys_of done) (n.key.now ∷ []))
