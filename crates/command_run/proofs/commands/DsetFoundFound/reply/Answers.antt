use Rattle.std.proofs.Common.{◌∙◌}
use Rattle.std.proofs.lemmas.Result.{IfOk-weaker}
use Rattle.command_run.proofs.Over.{answer_there}
use Rattle.command_run.proofs.commands.DsetFoundFound.reply.Goals as goal

pub dset_answer-requires-clause-written : goal.dset_answer-requires-clause-written
dset_answer-requires-clause-written c = answer_there c.args.over.now c.args.self.now.0 c.requires.over c.requires.found.0

pub returns : goal.returns
returns c = IfOk-weaker c.dset_answer.result _ _ (λ a said. record {
  available = c.available-is_available.result;
  unmet = c.available-is_available.new.scratch;
  is = record {
    is = c.available-is_available.ensures.available;
    places = c.available-is_available.ensures.same_n ∙ (c.new-unmet.ensures.size ∙ c.len.ensures.sets);
    are = c.available-is_available.ensures.unmet;
  };
  said = said;
}) c.dset_answer.ensures
