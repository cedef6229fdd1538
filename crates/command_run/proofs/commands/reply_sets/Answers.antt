use Rattle.std.proofs.Common.{length}
use Rattle.command_run.specs.Replies.{HasSets}
use Rattle.command_run.specs.Sought.{part, deleted}
use Rattle.command_run.proofs.Over.{there_asked}
use Rattle.command_run.proofs.Replied.{list_sized}
use Rattle.command_run.proofs.commands.reply_sets.Goals as goal

pub list_answer-requires : goal.list_answer-requires
list_answer-requires c =
    let s = c.args.over.now.search.now in
    there_asked c.args.over.now (λ f b. HasSets (length f.sets) c.args.found.now) c.requires.over (list_sized c.args.sought (part s).sets (deleted s) s.budget c.requires.found.0.left c.args.found.now c.requires.found.0.holds)
