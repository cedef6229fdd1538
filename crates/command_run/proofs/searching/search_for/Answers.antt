use Rattle.std.proofs.Common.{◌∙◌, Err, ap}
use Rattle.command_run.proofs.Over.{by_goal, wanting_ends}
use Rattle.command_run.proofs.searching.search_for.Goals as goal

pub tell_too_large-requires : goal.tell_too_large-requires
tell_too_large-requires g c =
    let vars = c.in-Err-TooLarge.vars in
    by_goal g.F.Found.sought c.args.over.now vars c.requires.over c.requires.asked (c.find.ensures.too_large vars (c.in-Err-TooLarge.is ∙ ap Err c.in-Err-TooLarge.field-0-is))

pub returns-in-Err-Memory : goal.returns-in-Err-Memory
returns-in-Err-Memory g c = wanting_ends g.D.Desk.tells c.args.over.now.search.now (g.D.Desk.state c.args.desk.now) (g.D.Desk.faults c.args.desk.now)
