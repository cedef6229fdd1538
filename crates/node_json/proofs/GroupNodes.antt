-- Each node has a group, each group has a place for each node, and there are few groups.
use Rattle.std.proofs.Common.{◌≡◌, ℕ, ◌+◌, ◌<◌, ◌≤◌, ◌==◌, true, false, not, List, [], ◌∷◌, length, map, unwrap_or, refl, ap, ◌∙◌, arith, inl, inr}
use Rattle.std.specs.Prelude.{All, fold}
use Rattle.std.specs.BTreeSet.{insert_key}
use Rattle.std.specs.Ordering.{match_ordering}
use Rattle.std.specs.declared.cmp.Ordering.{Ordering}
use Rattle.std.specs.declared.cmp.Ordering.TheVariants.{Less, Equal, Greater}
use Rattle.std.proofs.lemmas.Bool.{cases_Bool, or_left, or_right, or_cases, false≢true}
use Rattle.std.proofs.lemmas.List.{length-append, length-map}
use Rattle.std.proofs.lemmas.List.Elements.{All-nil, All-cons, All-append}
use Rattle.std.proofs.lemmas.List.Folds.{list_any-append}
use Rattle.fbas_model.specs.Names.{Name, name_cmp}
use Rattle.fbas_model.specs.Nodes.{Table, members, only, listed_from}
use Rattle.fbas_model.specs.Restriction.{kept as kept_of}
use Rattle.fbas_model.specs.Lists.{among}
use Rattle.fbas_model.proofs.Listed.{iterated_all}
use Rattle.fbas_model.proofs.Marks.{length-marks}
use Rattle.fbas_model.proofs.Tables.{length-table_from, members-table_from}
use Rattle.node_json.specs.NamesInOrder.{in_order}
use Rattle.node_json.specs.Organisations.{Org, ids_of, members_under}
use Rattle.node_json.specs.Groups.{Group, org_group, org_groups, node_group, grouped, loose, with_loose, CoverNodes}

-- ---- each node has a group

node_here : (kept : List Name) (v w : ℕ) → v < length kept → (v == w) ≡ true → members (node_group kept w).members v ≡ true
node_here kept v w low same = members-table_from 0 (length kept) (only w) v low ∙ ap (λ (x : ℕ). x == w) (from_zero v) ∙ same
  where
    from_zero : (v : ℕ) → 0 + v ≡ v
    from_zero v = omega arith

node_grouped : (kept : List Name) (v : ℕ) → v < length kept → (vs : List ℕ) → among vs v ≡ true → grouped (map (node_group kept) vs) v ≡ true
node_grouped kept v low [] there = absurd (false≢true there)
node_grouped kept v low (w ∷ vs) there = elim (or_cases (v == w) (among vs v) there) [
  | inl here ↦ or_left (members (node_group kept w).members v) (grouped (map (node_group kept) vs) v) (node_here kept v w low here)
  | inr later ↦ or_right (members (node_group kept w).members v) (grouped (map (node_group kept) vs) v) (node_grouped kept v low vs later)
]

pub nodes_covered : (kept : List Name) (groups : List Group) → CoverNodes (length kept) (with_loose kept groups)
nodes_covered kept groups v low =
    let t : Table = loose (length kept) groups in
    let nodes : List Group = map (node_group kept) (listed_from 0 t) in
    list_any-append (λ (g : Group). members g.members v) nodes groups ∙ (elim (cases_Bool (grouped groups v)) [
      | inl there ↦ or_right (grouped nodes v) (grouped groups v) there
      | inr none ↦
          let is : members t v ≡ true = members-table_from 0 (length kept) (λ w. not (grouped groups w)) v low ∙ ap (λ (x : ℕ). not (grouped groups x)) (from_zero v) ∙ ap not none in
          or_left (grouped nodes v) (grouped groups v) (node_grouped kept v low (listed_from 0 t) (iterated_all t (listed_from 0 t) refl v ∙ is))
    ])
  where
    from_zero : (v : ℕ) → 0 + v ≡ v
    from_zero v = omega arith

-- ---- each group has a place for each node

node_sized : (kept : List Name) (vs : List ℕ) → All (λ (g : Group). length g.members ≡ length kept) (map (node_group kept) vs)
node_sized kept [] = All-nil (λ (g : Group). length g.members ≡ length kept)
node_sized kept (v ∷ vs) = All-cons (λ (g : Group). length g.members ≡ length kept) (node_group kept v) (map (node_group kept) vs) (length-table_from 0 (length kept) (only v)) (node_sized kept vs)

pub org_sized : (names kept : List Name) (orgs : List Org) (ids : List Name) → All (λ (g : Group). length g.members ≡ length kept) (map (org_group names kept orgs) ids)
org_sized names kept orgs [] = All-nil (λ (g : Group). length g.members ≡ length kept)
org_sized names kept orgs (id ∷ ids) =
    All-cons (λ (g : Group). length g.members ≡ length kept) (org_group names kept orgs id) (map (org_group names kept orgs) ids) (length-marks kept (kept_of (unwrap_or (members_under orgs id) []) names)) (org_sized names kept orgs ids)

pub groups_sized : (names kept : List Name) (orgs : List Org) → All (λ (g : Group). length g.members ≡ length kept) (with_loose kept (org_groups names kept orgs))
groups_sized names kept orgs =
    All-append (λ (g : Group). length g.members ≡ length kept) (map (node_group kept) (listed_from 0 (loose (length kept) (org_groups names kept orgs)))) (org_groups names kept orgs)
    (node_sized kept (listed_from 0 (loose (length kept) (org_groups names kept orgs)))) (org_sized names kept orgs (in_order (ids_of orgs)))

-- ---- there are few

pub length_listed : (s : ℕ) (t : Table) → length (listed_from s t) ≤ length t
length_listed s [] = omega arith
length_listed s (true ∷ t) = omega (arith, length_listed (s + 1) t)
length_listed s (false ∷ t) = omega (arith, length_listed (s + 1) t)

length_insert : (ks : List Name) (k : Name) → length (insert_key name_cmp ks k) ≤ length ks + 1
length_insert [] k = omega arith
length_insert (x ∷ ks) k = by_order (name_cmp k x) (length_insert ks k)
  where
    by_order : (o : Ordering) → length (insert_key name_cmp ks k) ≤ length ks + 1 → length (match_ordering o (k ∷ x ∷ ks) (x ∷ ks) (x ∷ insert_key name_cmp ks k)) ≤ length (x ∷ ks) + 1
    by_order Less h = omega arith
    by_order Equal h = omega arith
    by_order Greater h = omega (arith, h)

length_fold : (before ks : List Name) → length (fold (insert_key name_cmp) before ks) ≤ length before + length ks
length_fold before [] = omega arith
length_fold before (k ∷ ks) = omega (arith, length_fold (insert_key name_cmp before k) ks, length_insert before k)

pub length_in_order : (ks : List Name) → length (in_order ks) ≤ length ks
length_in_order ks = omega (arith, length_fold [] ks)

pub few_groups : (names kept : List Name) (orgs : List Org) → length (with_loose kept (org_groups names kept orgs)) ≤ length kept + length orgs
few_groups names kept orgs =
    let t : Table = loose (length kept) (org_groups names kept orgs) in
    let nodes : List Group = map (node_group kept) (listed_from 0 t) in
    omega (
      arith,
      length-append nodes (org_groups names kept orgs),
      length-map (listed_from 0 t) (node_group kept),
      length_listed 0 t,
      length-table_from 0 (length kept) (λ v. not (grouped (org_groups names kept orgs) v)),
      length-map (in_order (ids_of orgs)) (org_group names kept orgs),
      length_in_order (ids_of orgs),
      length-map orgs (λ (o : Org). o.id),
    )
