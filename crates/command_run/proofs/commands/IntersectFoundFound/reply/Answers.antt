use Rattle.command_run.proofs.Over.{answer_there}
use Rattle.command_run.proofs.commands.IntersectFoundFound.reply.Goals as goal

pub intersect_answer-requires : goal.intersect_answer-requires
intersect_answer-requires c = answer_there c.args.over.now c.args.self.now.0 c.requires.over c.requires.found.0
