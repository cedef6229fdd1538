use Rattle.command_run.specs.Sought.{part, deleted}
use Rattle.command_run.proofs.Over.{answer_there}
use Rattle.command_run.proofs.Replied.{found_together}
use Rattle.command_run.proofs.commands.TrialFoundFound.reply.Goals as goal

pub trial_answer-requires-clause-written : goal.trial_answer-requires-clause-written
trial_answer-requires-clause-written c = answer_there c.args.over.now c.args.self.now.0 c.requires.over c.requires.found.0

pub trial_answer-requires-clause-together : goal.trial_answer-requires-clause-together
trial_answer-requires-clause-together c =
    let s = c.args.over.now.search.now in
    found_together (part s).sets (deleted s) s.budget c.args.self.now.0 (c.requires.over.fits.meets c.requires.asked) c.requires.found.0
