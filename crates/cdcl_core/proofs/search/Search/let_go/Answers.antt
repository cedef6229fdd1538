use Rattle.std.proofs.Common.{List, sym, subst, arith}
use Rattle.std.proofs.lemmas.Grind.{common_steps}
use Rattle.lrat_model.specs.Literal.{Literal}
use Rattle.cardinality_counts.specs.Counts.{IsCounting}
use Rattle.cdcl_core.proofs.search.Search.let_go.Goals as goal

pub returns-clause-searching : goal.returns-clause-searching
returns-clause-searching c =
    record {
      vars = grind (arith, common_steps);
      guide = grind (arith, common_steps);
      state = grind (arith, common_steps);
      lists = grind (arith, common_steps);
      watched = grind (arith, common_steps);
      queued = grind (arith, common_steps);
      gated = record {
        counting = subst (λ (ls : List Literal). IsCounting c.back_to.new.self ls) (sym c.clear.ensures.trues) c.back_to.ensures.counting;
        vars = grind (arith, common_steps);
        covered = grind (arith, common_steps);
      };
    }
