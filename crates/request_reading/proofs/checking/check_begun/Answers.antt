use Rattle.desk_io.specs.State.{left_of}
use Rattle.desk_io.specs.declared.desk.Which.TheVariants.{Cert}
use Rattle.request_reading.specs.Meaning.{Shows, Verifies}
use Rattle.request_reading.proofs.checking.check_begun.Goals as goal

pub returns-in_ok-reply-in-Ok-clause-shows : goal.returns-in_ok-reply-in-Ok-clause-shows
returns-in_ok-reply-in-Ok-clause-shows g c = λ tells yes.
    let shows : Shows c.args.system.now c.in-Cert.given (left_of Cert (g.D.Desk.state c.args.desk.now)) = record { accepted = c.in-Ok.accepted; checks = c.in-Ok.ensures.ok tells; holds = c.in-Ok.ensures.holds } in
    rw c.in-Cert.is shows

pub returns-in_ok-verified-in-Ok-check_lrat-clause-shows : goal.returns-in_ok-verified-in-Ok-check_lrat-clause-shows
returns-in_ok-verified-in-Ok-check_lrat-clause-shows g c = λ tells yes.
    let shows : Verifies c.args.system.now c.in-Proof.version c.in-Proof.header (left_of Cert (g.D.Desk.state c.args.desk.now)) = record { verifies = c.in-Ok-check_lrat.ensures.ok tells; meets = c.in-Ok-check_lrat.ensures.shows } in
    rw c.in-Proof.is shows
