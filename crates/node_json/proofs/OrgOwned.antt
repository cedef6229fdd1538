-- The loop that makes organisations among nodes, step by step.
use Rattle.std.proofs.Common.{◌≡◌, ℕ, zero, suc, ◌+◌, ◌<◌, false, cond, List, [], ◌∷◌, ◌++◌, length, map, take, get_or, Some, refl, sym, ap, ap₂, ◌∙◌, arith, length-take, add-one, take-suc}
use Rattle.std.proofs.lemmas.List.{length-map, map-append, get_or-map}
use Rattle.std.specs.BTreeMap.{insert_entry}
use Rattle.std.specs.List.{IsDistinct}
use Rattle.std.specs.Str.{bytes_eq}
use Rattle.fbas_model.specs.Names.{Name, is_among}
use Rattle.node_json.specs.Organisations.{among_nodes, ids_of}
use Rattle.node_json.specs.OrgsView.{named_org_view, named_orgs_view, named_ids, org_view, orgs_view, AreIndexed}
use Rattle.node_json.specs.declared.named_orgs.NamedOrg.{NamedOrg}
use Rattle.node_json.specs.declared.organisations.Org.{Org}
use Rattle.node_json.proofs.OrgPlaces.{by_text, found, found-insert, indexed-more, fresh}

ids-taken : (names : List Name) (orgs : List NamedOrg) (i : ℕ) → ids_of (map (among_nodes names) (named_orgs_view (take i orgs))) ≡ take i (named_ids orgs)
ids-taken names orgs zero = refl
ids-taken names [] (suc i) = refl
ids-taken names (o ∷ os) (suc i) = ap (λ ids. o.id.now ∷ ids) (ids-taken names os i)

module _ (names : List Name) (orgs : List NamedOrg) (i : ℕ) (org : NamedOrg) (list then : List Org) (one : Org) (h : i < length orgs) (is : org ≡ get_or orgs i org) (made : org_view one ≡ among_nodes names (named_org_view org)) (grown : then ≡ list ++ one ∷ [])
    (so_far : orgs_view list ≡ map (among_nodes names) (named_orgs_view (take i orgs))) where
  view_grown : orgs_view then ≡ orgs_view list ++ org_view one ∷ []
  view_grown = ap orgs_view grown ∙ map-append org_view list (one ∷ [])

  -- one more organisation
  pub owned_more : orgs_view then ≡ map (among_nodes names) (named_orgs_view (take (i + 1) orgs))
  owned_more =
      let more : take (i + 1) orgs ≡ take i orgs ++ org ∷ [] = rw (add-one, take-suc orgs i org h, ← is) refl in
      let views : named_orgs_view (take (i + 1) orgs) ≡ named_orgs_view (take i orgs) ++ named_org_view org ∷ [] = ap named_orgs_view more ∙ map-append named_org_view (take i orgs) (org ∷ []) in
      view_grown ∙ ap₂ (λ os o. os ++ o ∷ []) so_far made ∙ sym (ap (map (among_nodes names)) views ∙ map-append (among_nodes names) (named_orgs_view (take i orgs)) (named_org_view org ∷ []))

  -- and its place in the index
  pub index_more : {K : Type 0} (text : K → Name) (es more : List (K × ℕ)) (key : K) → IsDistinct bytes_eq (named_ids orgs) → text key ≡ org.id.now → more ≡ insert_entry (by_text text) es key i
      → AreIndexed (orgs_view list) (found text es) → AreIndexed (orgs_view then) (found text more)
  index_more text es more key apart key_is put all =
      let org_id : (org_view one).id ≡ org.id.now = ap (λ o. o.id) made in
      let at : org.id.now ≡ get_or (named_ids orgs) i org.id.now = ap (λ o. o.id.now) is ∙ sym (get_or-map (λ (o : NamedOrg). o.id.now) orgs i org org.id.now h) in
      let new : is_among (org_view one).id (ids_of (orgs_view list)) ≡ false =
      ap₂ is_among org_id (ap ids_of so_far ∙ ids-taken names orgs i) ∙ fresh (named_ids orgs) i org.id.now apart (let n = length-map orgs (λ (o : NamedOrg). o.id.now) in omega arith) at
      in
      let places : i ≡ length (orgs_view list) =
      sym (ap length so_far ∙ length-map (named_orgs_view (take i orgs)) (among_nodes names) ∙ length-map (take i orgs) named_org_view ∙ (let n = length-take i orgs in omega arith))
      in
      rw view_grown (indexed-more (orgs_view list) (org_view one) (found text es) (found text more) all new (λ id. ap (λ x. found text x id) put ∙ found-insert text es key i id ∙ ap₂ (λ t n. cond (bytes_eq t id) (Some n) (found text es id)) (key_is ∙ sym org_id) places))
