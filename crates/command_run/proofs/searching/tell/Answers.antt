use Rattle.command_run.proofs.Over.{wanting_ends}
use Rattle.command_run.proofs.searching.tell.Goals as goal

pub returns-in_default : goal.returns-in_default
returns-in_default g c = wanting_ends g.D.Desk.tells c.args.over.now.search.now (g.D.Desk.state c.args.desk.now) (g.D.Desk.faults c.args.desk.now)
