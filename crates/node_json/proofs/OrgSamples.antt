-- What the definitions say of some files of organisations and lists of ids, computed.
use Rattle.std.proofs.Common.{◌≡◌, List, [], ◌∷◌, true, false, Ok, Err, codes, refl}
use Rattle.std.specs.Str.{is_utf8, chars}
use Rattle.serde_json.proofs.OnLiterals.{serde_json_on_literals}
use Rattle.fbas_model.specs.Names.{Name}
use Rattle.name_set.specs.declared.lists.NameFault.TheVariants.{Empty, Unknown}
use Rattle.node_json.specs.Organisations.{Org, orgs_in, named_orgs_of, orgs_of, ids_read}
use Rattle.node_json.specs.Reading.{tree_of}
use Rattle.node_json.specs.declared.faults.OrgFault.TheVariants.{NotOrgs, BadOrg, DuplicateOrg}

abbrev three : List Name
three = codes "a" ∷ codes "b" ∷ codes "c" ∷ []

none : orgs_of three (codes "[]") ≡ Ok []
unfolding serde_json_on_literals orgs_of named_orgs_of orgs_in tree_of is_utf8 chars
none = refl

no_array : orgs_of three (codes "{}") ≡ Err NotOrgs
unfolding serde_json_on_literals orgs_of named_orgs_of orgs_in tree_of is_utf8 chars
no_array = refl

-- a validator that is no node is dropped
dropped : orgs_of three (codes "[{\"id\":\"A\",\"validators\":[\"a\",\"zz\"]}]") ≡ Ok (record { id = codes "A"; members = true ∷ false ∷ false ∷ [] } ∷ [])
unfolding serde_json_on_literals orgs_of named_orgs_of orgs_in tree_of is_utf8 chars
dropped = refl

two_of_one_id : orgs_of three (codes "[{\"id\":\"A\"},{\"id\":\"A\",\"validators\":1}]") ≡ Err (DuplicateOrg 1)
unfolding serde_json_on_literals orgs_of named_orgs_of orgs_in tree_of is_utf8 chars
two_of_one_id = refl

no_key : orgs_of three (codes "[{\"id\":\"A\",\"validators\":null},{\"id\":\"\"}]") ≡ Err (BadOrg 1)
unfolding serde_json_on_literals orgs_of named_orgs_of orgs_in tree_of is_utf8 chars
no_key = refl

abbrev two : List Org
two = record { id = codes "B"; members = false ∷ true ∷ true ∷ [] } ∷ record { id = codes "A"; members = true ∷ false ∷ true ∷ [] } ∷ []

-- an id may stand twice, and in any order
both : ids_read (codes "A,B,A") two 3 ≡ Ok (true ∷ true ∷ true ∷ [])
unfolding ids_read
both = refl

nobody : ids_read [] two 3 ≡ Ok (false ∷ false ∷ false ∷ [])
unfolding ids_read
nobody = refl

nothing_after : ids_read (codes "A,") two 3 ≡ Err (Empty 2)
unfolding ids_read
nothing_after = refl

unknown : ids_read (codes "C,A B") two 3 ≡ Err (Unknown 1)
unfolding ids_read
unknown = refl
