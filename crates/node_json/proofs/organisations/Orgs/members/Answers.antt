use Rattle.std.proofs.Common.{◌≡◌, ◌<◌, length, Some, None, arith, rules, refl, sym, ap, ◌∙◌, option_copied}
use Rattle.std.proofs.lemmas.List.{length-map}
use Rattle.std.proofs.lemmas.Option.{slice_get-map, slice_get_read}
use Rattle.fbas_model.specs.Names.{place_of}
use Rattle.node_json.specs.Organisations.{ids_of, members_under}
use Rattle.node_json.specs.OrgsView.{org_view, orgs_view}
use Rattle.node_json.proofs.OrgPlaces.{place-within, under-at, under-none, under-there, under-missing}
use Rattle.node_json.proofs.organisations.Orgs.members.Goals as goal

pub returns-in_err-at : goal.returns-in_err-at
returns-in_err-at c =
    let orgs = orgs_view c.self.inside.list.items in
    let id = c.args.id.now in
    let r : c.from_residual.result ≡ None = search rules in
    let none : c.get.result ≡ None = search rules in
    let nowhere : place_of (ids_of orgs) id ≡ None = sym (c.self.invariant.0.found id) ∙ sym c.get.ensures.value ∙ ap option_copied none in
    rw (r, ← c.self.view_is) (record {
      value = sym (under-none orgs id nowhere);
      cases = under-missing orgs id (under-none orgs id nowhere);
      apart = c.self.invariant.0.apart;
    })

pub index-requires : goal.index-requires
index-requires c =
    let list = c.self.inside.list.items in
    let orgs = orgs_view list in
    let id = c.args.id.now in
    let some : c.get.result ≡ Some c.in_ok-at.field-0 = search rules in
    let here : place_of (ids_of orgs) id ≡ Some c.in_ok-at.field-0.now = sym (c.self.invariant.0.found id) ∙ sym c.get.ensures.value ∙ ap option_copied some in
    omega (arith, place-within orgs id c.in_ok-at.field-0.now here, length-map list org_view)

pub returns : goal.returns
returns c =
    let list = c.self.inside.list.items in
    let orgs = orgs_view list in
    let id = c.args.id.now in
    let at = c.in_ok-at.field-0.now in
    let some : c.get.result ≡ Some c.in_ok-at.field-0 = search rules in
    let here : place_of (ids_of orgs) id ≡ Some at = sym (c.self.invariant.0.found id) ∙ sym c.get.ensures.value ∙ ap option_copied some in
    let within : at < length list = omega (arith, place-within orgs id at here, length-map list org_view) in
    let under : members_under orgs id ≡ Some c.index.result.now.members = under-at orgs id at here ∙ rw (slice_get-map org_view list at, slice_get_read list (length list) at c.index.result.now refl within c.index.ensures) refl in
    rw (← c.self.view_is) (record {
      value = sym under;
      cases = under-there orgs id c.index.result.now.members under;
      apart = c.self.invariant.0.apart;
    })
