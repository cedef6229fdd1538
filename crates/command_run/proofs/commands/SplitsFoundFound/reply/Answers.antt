use Rattle.command_run.proofs.Over.{answer_there}
use Rattle.command_run.proofs.commands.SplitsFoundFound.reply.Goals as goal

pub splits_answer-requires : goal.splits_answer-requires
splits_answer-requires c = answer_there c.args.over.now c.args.self.now.0 c.requires.over c.requires.found.0
