use Rattle.std.proofs.Common.{◌∙◌, ap}
use Rattle.cdcl_core.specs.declared.memory.Memory.{Memory}
use Rattle.cdcl_core.proofs.forgetting.delete.Goals as goal

pub returns-clause-deletion : goal.returns-clause-deletion
returns-clause-deletion c =
    let rest = c.let_go.ensures.rest in
    let did = c.in_ok-take_away.ensures in
    record {
      vars = rest.0;
      last = rest.1;
      clauses = rest.2 ∙ did.held;
      log = rest.3 ∙ did.log;
      ids = ap (λ (m : Memory). m.ids.items) rest.4 ∙ did.ids;
      deletions = ap (λ (m : Memory). m.deletions) rest.4 ∙ did.deletions;
    }
