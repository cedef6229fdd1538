-- The organisations that the program's values stand for.
use Rattle.std.specs.Prelude.{◌≡◌, ℕ, List, [], ◌∷◌, ◌++◌, Option, Result, Ok, map}
use Rattle.std.specs.List.{IsDistinct}
use Rattle.std.specs.Str.{bytes_eq}
use Rattle.fbas_model.specs.Names.{Name, place_of}
use Rattle.node_json.specs.NamesInOrder.{in_order}
use Rattle.node_json.specs.Organisations as spec
use Rattle.node_json.specs.View.{names_view}
use Rattle.node_json.specs.declared.faults.OrgFault.{OrgFault}
use Rattle.node_json.specs.declared.named_orgs.NamedOrg.{NamedOrg}
use Rattle.node_json.specs.declared.organisations.Org.{Org}

abbrev pub named_org_view : NamedOrg → spec.NamedOrg
named_org_view org = record { id = org.id.now; validators = names_view org.validators.items }

abbrev pub named_orgs_view : List NamedOrg → List spec.NamedOrg
named_orgs_view orgs = map named_org_view orgs

abbrev pub named_ids : List NamedOrg → List Name
named_ids orgs = map (λ org. org.id.now) orgs

-- the names that were seen are the ids of these organisations, and these are distinct
pub record AreApart (names : List Name) (orgs : List NamedOrg) : Type 0 where
  pub seen : names ≡ in_order (named_ids orgs)
  pub apart : IsDistinct bytes_eq (named_ids orgs)

-- the organisation that the element is, after the others
pub record IsOneMore (element : Result spec.NamedOrg OrgFault) (before then : List NamedOrg) : Type 0 where
  pub org : NamedOrg
  pub read : element ≡ Ok (named_org_view org)
  pub behind : then ≡ before ++ org ∷ []

abbrev pub org_view : Org → spec.Org
org_view org = record { id = org.id.items; members = org.members }

abbrev pub orgs_view : List Org → List spec.Org
orgs_view orgs = map org_view orgs

-- the ids are distinct, and the index finds the place of each
pub record AreIndexed (orgs : List spec.Org) (index : Name → Option ℕ) : Type 0 where
  pub apart : IsDistinct bytes_eq (spec.ids_of orgs)
  pub found : (id : Name) → index id ≡ place_of (spec.ids_of orgs) id
