-- The names that are gathered while quorum sets and nodes are read.
use Rattle.std.proofs.Common.{◌≡◌, ℕ, List, [], ◌∷◌, ◌++◌, append_assoc, append-nil, sym, ap, ◌∙◌}
use Rattle.std.proofs.lemmas.List.Sums.{fold-append}
use Rattle.std.specs.BTreeSet.{insert_key}
use Rattle.std.specs.Prelude.{option_map}
use Rattle.fbas_model.specs.Names.{Name, name_cmp}
use Rattle.node_json.specs.Configuration.{names_in_set, names_in_sets, names_if_any, all_names}
use Rattle.node_json.specs.Named as spec
use Rattle.node_json.specs.NamesInOrder.{with_names}
use Rattle.node_json.specs.View.{nodes_view, set_view, sets_view}
use Rattle.node_json.specs.declared.nodes.NamedNode.{NamedNode}
use Rattle.node_json.specs.declared.quorum_sets.NamedSet.{NamedSet}

-- names and then more names
pub with_both : (before xs ys : List Name) → with_names (with_names before xs) ys ≡ with_names before (xs ++ ys)
with_both before xs ys = sym (fold-append (insert_key name_cmp) before xs ys)

names_of-sets : (done : List NamedSet) (s : NamedSet) → names_in_sets (sets_view (done ++ s ∷ [])) ≡ names_in_sets (sets_view done) ++ names_in_set (set_view s)
names_of-sets [] s = append-nil (names_in_set (set_view s))
names_of-sets (x ∷ xs) s = ap (λ (ns : List Name). names_in_set (set_view x) ++ ns) (names_of-sets xs s) ∙ sym (append_assoc (names_in_set (set_view x)) (names_in_sets (sets_view xs)) (names_in_set (set_view s)))

-- the names of one more quorum set
pub sets_gathered : (before now then : List Name) (done more : List NamedSet) (s : NamedSet) → more ≡ done ++ s ∷ [] → then ≡ with_names now (names_in_set (set_view s))
    → now ≡ with_names before (names_in_sets (sets_view done)) → then ≡ with_names before (names_in_sets (sets_view more))
sets_gathered before now then done more s m t n =
    t ∙ ap (λ (ns : List Name). with_names ns (names_in_set (set_view s))) n ∙ with_both before (names_in_sets (sets_view done)) (names_in_set (set_view s))
    ∙ ap (with_names before) (sym (ap (λ (ss : List NamedSet). names_in_sets (sets_view ss)) m ∙ names_of-sets done s))

-- the names of a quorum set: its validators, then those in its inner sets
pub set_gathered : (before now then : List Name) (threshold : ℕ) (validators : List Name) (inners : spec.NamedSets) (s : spec.NamedSet) → s ≡ spec.named_set threshold validators inners
    → now ≡ with_names before validators → then ≡ with_names now (names_in_sets inners) → then ≡ with_names before (names_in_set s)
set_gathered before now then threshold validators inners s is n t =
    t ∙ ap (λ (ns : List Name). with_names ns (names_in_sets inners)) n ∙ with_both before validators (names_in_sets inners) ∙ ap (λ (k : spec.NamedSet). with_names before (names_in_set k)) (sym is)

abbrev names_of-node : NamedNode → List Name
names_of-node n = n.key.now ∷ names_if_any (option_map set_view n.quorum_set)

names_of-nodes : (done : List NamedNode) (n : NamedNode) → all_names (nodes_view (done ++ n ∷ [])) ≡ all_names (nodes_view done) ++ names_of-node n
names_of-nodes [] n = append-nil (names_of-node n)
names_of-nodes (x ∷ xs) n = ap (λ (ns : List Name). names_of-node x ++ ns) (names_of-nodes xs n) ∙ sym (append_assoc (names_of-node x) (all_names (nodes_view xs)) (names_of-node n))

-- the names of one more node
pub nodes_gathered : (before now then : List Name) (done more : List NamedNode) (n : NamedNode) → more ≡ done ++ n ∷ [] → then ≡ with_names now (n.key.now ∷ names_if_any (option_map set_view n.quorum_set))
    → now ≡ with_names before (all_names (nodes_view done)) → then ≡ with_names before (all_names (nodes_view more))
nodes_gathered before now then done more n m t w =
    t ∙ ap (λ (ns : List Name). with_names ns (names_of-node n)) w ∙ with_both before (all_names (nodes_view done)) (names_of-node n)
    ∙ ap (with_names before) (sym (ap (λ (ns : List NamedNode). all_names (nodes_view ns)) m ∙ names_of-nodes done n))
