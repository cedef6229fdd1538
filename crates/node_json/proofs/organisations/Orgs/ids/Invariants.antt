use Rattle.std.proofs.Common.{◌≡◌, map, take}
use Rattle.node_json.proofs.organisations.Orgs.ids.Given as goal

abbrev pub invariant-loop-org : goal.invariant-loop-org
invariant-loop-org l = map (λ id. id.items) l.ids.items ≡ map (λ org. org.id.items) (take l.org-index l.org-items)
