use Rattle.std.proofs.Common.{sym, ◌∙◌}
use Rattle.std.proofs.lemmas.Result.{IfOk-weaker}
use Rattle.command_run.proofs.solving.export.Goals as goal

pub formula-requires-clause-same_names : goal.formula-requires-clause-same_names
formula-requires-clause-same_names c = c.greatest-quorum.ensures.same_n ∙ (sym c.len.ensures.sets ∙ c.len.ensures.names)

pub returns : goal.returns
returns c = IfOk-weaker c.formula.result _ _ (λ a said. record {
  greatest = c.greatest-quorum.result;
  places = c.greatest-quorum.ensures.same_n;
  is = c.greatest-quorum.ensures.greatest;
  counted = c.greatest-quorum.ensures.counted;
  said = said;
}) c.formula.ensures
