use Rattle.std.proofs.Common.{◌<◌, length, Vec, ℕ, Global, arith, refl}
use Rattle.node_json.proofs.OrgPlaces.{indexed-none}
use Rattle.node_json.proofs.OrgOwned.{owned_more, index_more}
use Rattle.node_json.proofs.organisations.owned_orgs.Goals as goal

pub loop-at-init : goal.loop-at-init
loop-at-init c = rw c.in_ok-list.ensures.items (refl, indexed-none _ (λ id. rw c.new-places.ensures.empty refl))

pub loop-at-preserved : goal.loop-at-preserved
loop-at-preserved c =
    let names = c.args.names.now in
    let orgs = c.args.orgs.now in
    let org = c.index-orgs-at.result in
    let one = c.in_ok-owned_org.field-0 in
    let within : c.loop-at.at < length orgs = omega arith in (
      owned_more names orgs c.loop-at.at org c.loop-at.list.items c.push.new.self.items one within c.index-orgs-at.is c.in_ok-owned_org.ensures c.in_ok-push.ensures.items c.loop-at.invariant.0,
      index_more names orgs c.loop-at.at org c.loop-at.list.items c.push.new.self.items one within c.index-orgs-at.is c.in_ok-owned_org.ensures c.in_ok-push.ensures.items c.loop-at.invariant.0 (λ (key : Vec ℕ Global). key.items) c.loop-at.places.entries c.insert.new.self.entries c.in_ok-owned_id.field-0 c.requires.apart c.in_ok-owned_id.ensures c.in_ok-insert.ensures.entries c.loop-at.invariant.1,
    )
