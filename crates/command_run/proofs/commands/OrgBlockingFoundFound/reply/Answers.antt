use Rattle.command_run.specs.Sought.{part, deleted}
use Rattle.command_run.proofs.Replied.{groups_sized}
use Rattle.command_run.proofs.commands.OrgBlockingFoundFound.reply.Goals as goal

pub group_answer-requires : goal.group_answer-requires
group_answer-requires c =
    let s = c.args.over.now.search.now in
    let shows = c.requires.found.0.shows in
    groups_sized (part s).sets (deleted s) c.args.self.now.groups s.budget shows.left c.args.self.now.outcome shows.holds
