use Rattle.std.proofs.Common.{sym, subst}
use Rattle.request_reading.specs.declared.reading.Asked.{Asked}
use Rattle.command_run.specs.Printing.{PrintsAsked, PrintsAskedPart}
use Rattle.command_run.proofs.answer.Goals as goal

pub returns-in-Search-clause-answered : goal.returns-in-Search-clause-answered
returns-in-Search-clause-answered g c = λ tell is.
    subst (λ (a : Asked). PrintsAsked a (g.D.Desk.state c.args.desk.now) (g.D.Desk.state c.search.new.desk) c.search.result) (sym c.in-Search.is) (c.search.ensures.answered tell is)

pub returns-in-Search-clause-part : goal.returns-in-Search-clause-part
returns-in-Search-clause-part g c = λ tell failed.
    subst (λ (a : Asked). PrintsAskedPart a (g.D.Desk.state c.args.desk.now) (g.D.Desk.state c.search.new.desk)) (sym c.in-Search.is) (c.search.ensures.part tell failed)
