use Rattle.std.proofs.Common.{map}
use Rattle.node_json.specs.Organisations.{ids_of}
use Rattle.node_json.proofs.GroupLoops.{ids_all, names_made}
use Rattle.node_json.proofs.organisations.Orgs.ids.Goals as goal

pub returns-clause-ids : goal.returns-clause-ids
returns-clause-ids c =
    names_made c.of.result (map (λ id. id.items) c.loop-org.ids.items) (ids_of c.args.self.now)
    (ids_all (map (λ id. id.items) c.loop-org.ids.items) c.deref-org-items.result.now c.self.inside.list.items c.loop-org.org-index c.args.self.now c.loop-org.invariant c.loop-org-test.false c.deref-org-items.ensures.value c.self.view_is)
    c.of.ensures
