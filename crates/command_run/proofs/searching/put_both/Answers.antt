use Rattle.command_run.specs.Sought.{request}
use Rattle.command_run.specs.Meanings.{cert_of, meaning_of}
use Rattle.command_run.specs.Putting.{unmade}
use Rattle.command_run.proofs.Puts.{any_err, err_both, some_cert, some_text}
use Rattle.command_run.proofs.searching.put_both.Goals as goal

pub returns-in_err-create-clause-part : goal.returns-in_err-create-clause-part
returns-in_err-create-clause-part g c =
    any_err c.from_residual.result _ (λ tell. unmade (c.in_err-create.ensures.failed tell) (λ plain. let why = c.in_err-create.ensures.plain tell plain in record { missing = why.0; never = why.1 }))

pub returns-in_err-write-clause-part : goal.returns-in_err-write-clause-part
returns-in_err-write-clause-part g c =
    let cert = cert_of (meaning_of g.F.Found.sought) (request c.args.over.now.search.now) (g.F.Found.shown c.args.found.now) in
    any_err c.from_residual-in_err-write.result _ (λ tell. some_cert c.args.path.now cert c.args.text.now (g.D.Desk.state c.args.desk.now) (g.D.Desk.state c.create.new.self) (g.D.Desk.state c.write.new.desk) (c.in_ok-create.ensures.created tell) (c.in_err-write.ensures.part tell))

pub returns-clause-part : goal.returns-clause-part
returns-clause-part g c =
    let cert = cert_of (meaning_of g.F.Found.sought) (request c.args.over.now.search.now) (g.F.Found.shown c.args.found.now) in
    err_both c.put_all.result _ _ _ (λ prefix plain tell. some_text c.args.path.now cert c.args.text.now (g.D.Desk.state c.args.desk.now) (g.D.Desk.state c.create.new.self) (g.D.Desk.state c.write.new.desk) (g.D.Desk.state c.put_all.new.desk) (c.in_ok-create.ensures.created tell) (c.in_ok-write.ensures.all tell) (prefix tell) (plain tell)) c.put_all.ensures.prefix c.put_all.ensures.plain
