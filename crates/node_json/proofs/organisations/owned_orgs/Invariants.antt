use Rattle.std.proofs.Common.{◌≡◌, map, take}
use Rattle.std.specs.BTreeMap.{get_by}
use Rattle.fbas_model.specs.Names.{name_cmp}
use Rattle.node_json.specs.Organisations.{among_nodes}
use Rattle.node_json.specs.OrgsView.{named_orgs_view, orgs_view, AreIndexed}
use Rattle.node_json.proofs.organisations.owned_orgs.Given as goal

abbrev pub invariant-loop-at : goal.invariant-loop-at
invariant-loop-at l =
    (orgs_view l.list.items ≡ map (among_nodes l.names) (named_orgs_view (take l.at l.orgs)))
    × AreIndexed (orgs_view l.list.items) (λ id. get_by (λ key. name_cmp id key.items) l.places)
