-- The organisations that a certificate is held against.
use Rattle.std.specs.Prelude.{◌≡◌, List, All, length, Option, None, IfSome, option_map}
use Rattle.fbas_model.specs.Nodes.{Table}
use Rattle.fbas_model.specs.Systems.{System}
use Rattle.fbas_model.specs.Restriction.{kept}
use Rattle.node_json.specs.Groups.{Group, groups_of}
use Rattle.certificate_file.specs.declared.given.Given.{Given}

-- they were read over the system: each has a place for each node
abbrev pub FitsGiven : System → Given → Type 0
FitsGiven f given = IfSome given.orgs (λ g. All (λ org. length org.members ≡ length f.names) g.orgs)

-- the groups of a part of the system, where organisations were given
abbrev pub groups_given : System → Given → Table → Option (List Group)
groups_given f given nodes = option_map (λ g. groups_of f.names (kept nodes f.names) g.orgs) given.orgs

-- the same without organisations
abbrev pub without_orgs : Given → Given
without_orgs given = record { digest = given.digest; orgs = None }
