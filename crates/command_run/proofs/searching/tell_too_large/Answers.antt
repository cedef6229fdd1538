use Rattle.std.proofs.Common.{IsTrue, refl, sym, subst}
use Rattle.request_reading.specs.declared.reply.Reply.{Reply}
use Rattle.request_reading.specs.Status.{is_answer}
use Rattle.command_run.proofs.Over.{wanting_ends, printed_ends}
use Rattle.command_run.proofs.searching.tell_too_large.Goals as goal

pub print-requires : goal.print-requires
print-requires g c = subst (λ (a : Reply). IsTrue (is_answer a.status)) (sym c.in-Ok.ensures) refl

pub returns-in-Ok : goal.returns-in-Ok
returns-in-Ok g c = printed_ends g.D.Desk.tells c.args.over.now.search.now c.args.vars c.in-Ok.reply _ _ _ _ _ c.in-Ok.ensures c.requires c.print.ensures.printed c.print.ensures.part c.print.ensures.status c.print.ensures.faults

pub returns-in-Err : goal.returns-in-Err
returns-in-Err g c = wanting_ends g.D.Desk.tells c.args.over.now.search.now (g.D.Desk.state c.args.desk.now) (g.D.Desk.faults c.args.desk.now)
