use Rattle.std.proofs.Common.{refl, arith}
use Rattle.node_json.proofs.OrgPlaces.{indexed-none}
use Rattle.node_json.proofs.organisations.Orgs.none.Goals as goal

pub invariant_of-result : goal.invariant_of-result
invariant_of-result c = rw c.new.ensures.items (indexed-none _ (λ id. rw c.new-2.ensures.empty refl), omega arith)
