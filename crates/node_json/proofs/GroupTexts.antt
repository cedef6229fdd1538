-- The texts of groups rise: those of nodes in the order of their names, then those of organisations in the order of their ids.
use Rattle.std.proofs.Common.{◌≡◌, ℕ, List, [], ◌∷◌, ◌++◌, length, map, slice_index_or, Less, refl, sym, ap, ap₂, ◌∙◌, subst}
use Rattle.std.specs.Prelude.{codes, not}
use Rattle.std.specs.List.{AllByRecursion}
use Rattle.std.specs.List.Sorted.{IsStrictlySortedBy}
use Rattle.std.proofs.lemmas.List.{map-append}
use Rattle.fbas_model.specs.Names.{Name, name_cmp}
use Rattle.fbas_model.specs.Nodes.{Table, listed_from}
use Rattle.fbas_model.specs.Restriction.{kept as kept_of}
use Rattle.fbas_model.proofs.Listed.{kept_listed}
use Rattle.fbas_model.proofs.SortedNames.{kept_sorted}
use Rattle.fbas_model.proofs.Tables.{length-table_from}
use Rattle.node_json.specs.NamesInOrder.{in_order}
use Rattle.node_json.specs.Organisations.{Org, ids_of}
use Rattle.node_json.specs.Groups.{Group, texts_of, org_group, org_groups, node_group, loose, with_loose, grouped}
use Rattle.node_json.proofs.NamesInOrder.{in_order-sorted}

abbrev node_text : Name → Name
node_text name = codes "node:" ++ name

abbrev org_text : Name → Name
org_text id = codes "org:" ++ id

same_nodes : (x y : Name) → name_cmp (node_text x) (node_text y) ≡ name_cmp x y
same_nodes x y = refl

same_orgs : (x y : Name) → name_cmp (org_text x) (org_text y) ≡ name_cmp x y
same_orgs x y = refl

nodes_first : (x y : Name) → name_cmp (node_text x) (org_text y) ≡ Less
nodes_first x y = refl

org_above : (x : Name) (ids : List Name) → AllByRecursion (λ z. name_cmp x z ≡ Less) ids → AllByRecursion (λ z. name_cmp (org_text x) z ≡ Less) (map org_text ids)
org_above x [] h = tt
org_above x (y ∷ ys) h = (same_orgs x y ∙ h.0, org_above x ys h.1)

orgs_sorted : (ids : List Name) → IsStrictlySortedBy name_cmp ids → IsStrictlySortedBy name_cmp (map org_text ids)
unfolding IsStrictlySortedBy
orgs_sorted [] h = tt
orgs_sorted (x ∷ ids) h = (org_above x ids h.0, orgs_sorted ids h.1)

orgs_above : (x : Name) (ids : List Name) → AllByRecursion (λ z. name_cmp (node_text x) z ≡ Less) (map org_text ids)
orgs_above x [] = tt
orgs_above x (y ∷ ys) = (nodes_first x y, orgs_above x ys)

all_above : (x : Name) (names ids : List Name) → AllByRecursion (λ z. name_cmp x z ≡ Less) names → AllByRecursion (λ z. name_cmp (node_text x) z ≡ Less) (map node_text names ++ map org_text ids)
all_above x [] ids h = orgs_above x ids
all_above x (y ∷ ys) ids h = (same_nodes x y ∙ h.0, all_above x ys ids h.1)

both_sorted : (names ids : List Name) → IsStrictlySortedBy name_cmp names → IsStrictlySortedBy name_cmp ids → IsStrictlySortedBy name_cmp (map node_text names ++ map org_text ids)
unfolding IsStrictlySortedBy
both_sorted [] ids h k = orgs_sorted ids k
both_sorted (x ∷ names) ids h k = (all_above x names ids h.0, both_sorted names ids h.1 k)

node_texts : (kept : List Name) (vs : List ℕ) → texts_of (map (node_group kept) vs) ≡ map node_text (map (λ v. slice_index_or kept v []) vs)
node_texts kept [] = refl
node_texts kept (v ∷ vs) = ap (λ (ts : List Name). node_text (slice_index_or kept v []) ∷ ts) (node_texts kept vs)

org_texts : (names kept : List Name) (orgs : List Org) (ids : List Name) → texts_of (map (org_group names kept orgs) ids) ≡ map org_text ids
org_texts names kept orgs [] = refl
org_texts names kept orgs (id ∷ ids) = ap (λ (ts : List Name). org_text id ∷ ts) (org_texts names kept orgs ids)

pub texts_rise : (names kept : List Name) (orgs : List Org) → IsStrictlySortedBy name_cmp kept → IsStrictlySortedBy name_cmp (texts_of (with_loose kept (org_groups names kept orgs)))
texts_rise names kept orgs sorted =
    let t : Table = loose (length kept) (org_groups names kept orgs) in
    let ids : List Name = in_order (ids_of orgs) in
    let left : kept_of t kept ≡ map (λ v. slice_index_or kept v []) (listed_from 0 t) = kept_listed t kept [] (length-table_from 0 (length kept) (λ v. not (grouped (org_groups names kept orgs) v))) in
    let texts : texts_of (with_loose kept (org_groups names kept orgs)) ≡ map node_text (kept_of t kept) ++ map org_text ids =
    map-append (λ (g : Group). g.text) (map (node_group kept) (listed_from 0 t)) (org_groups names kept orgs)
    ∙ ap₂ (λ (xs ys : List Name). xs ++ ys) (node_texts kept (listed_from 0 t) ∙ ap (map node_text) (sym left)) (org_texts names kept orgs ids)
    in
    subst (λ (ts : List Name). IsStrictlySortedBy name_cmp ts) (sym texts) (both_sorted (kept_of t kept) ids (kept_sorted t kept sorted) (in_order-sorted (ids_of orgs)))
