use Rattle.std.proofs.Common.{arith, rules}
use Rattle.std.proofs.lemmas.Grind.{common_steps}
use Rattle.cdcl_core.proofs.GatedLaws.{state_first}
use Rattle.cdcl_core.proofs.search.Search.over.Goals as goal

pub returns-clause-searching : goal.returns-clause-searching
returns-clause-searching c =
    record {
      vars = grind (arith, common_steps);
      guide = grind (arith, common_steps);
      state = state_first c.args.vars c.in_ok-assignment.assignment.trues c.new-8.result.items (grind (arith, common_steps)) (grind (arith, common_steps));
      lists = grind (arith, common_steps);
      watched = λ l. search rules;
      queued = grind (arith, common_steps);
      gated = record {
        counting = c.in_ok-gates.ensures.counting c.in_ok-assignment.assignment.trues;
        vars = grind (arith, common_steps);
        covered = grind (arith, common_steps);
      };
    }
