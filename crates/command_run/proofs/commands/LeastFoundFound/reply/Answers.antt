use Rattle.std.proofs.Common.{length}
use Rattle.command_run.specs.Replies.{HasPlaces}
use Rattle.command_run.specs.Sought.{part, deleted}
use Rattle.command_run.proofs.Over.{there_asked}
use Rattle.command_run.proofs.Replied.{least_sized}
use Rattle.command_run.proofs.commands.LeastFoundFound.reply.Goals as goal

pub least_answer-requires : goal.least_answer-requires
least_answer-requires c =
    let s = c.args.over.now.search.now in
    let outcome = c.args.self.now.outcome in
    there_asked c.args.over.now (λ f b. HasPlaces (length f.sets) outcome) c.requires.over (least_sized (part s).sets (deleted s) s.budget c.requires.found.0.1.left outcome c.requires.found.0.1.holds)
