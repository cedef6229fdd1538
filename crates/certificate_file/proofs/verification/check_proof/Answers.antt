use Rattle.std.proofs.Common.{rules, ◌≡◌, ◌++◌, Err, ◌∙◌}
use Rattle.desk_io.specs.State.{left_of}
use Rattle.desk_io.specs.declared.Which.TheVariants.{Cert}
use Rattle.cert_lines.specs.Texts.{texts_of}
use Rattle.cert_lines.proofs.Ends.{cert_or_memory}
use Rattle.certificate_file.specs.Streamed.{checking_of}
use Rattle.certificate_file.proofs.Desks.{rest_then, plain_then, fails_then, fails_on, same_fault, not_read}
use Rattle.certificate_file.proofs.verification.check_proof.Goals as goal

pub returns-in_err-take_proof_line : goal.returns-in_err-take_proof_line
returns-in_err-take_proof_line g c =
    let e = c.in_err-take_proof_line.field-0.0 in
    let r : c.from_residual.result ≡ Err e = search rules in
    let so_far = c.lines.invariant in
    let failed = c.in_err-take_proof_line.ensures in
    rw r (record {
      ok = tt;
      err = λ tells. cert_or_memory e (λ _ fault. so_far.same tells ∙ fault) (failed.err tells);
      shows = tt;
      plain = λ is tells plain. failed.plain (same_fault e is) tells (plain_then (g.D.Desk.state c.args.desk.now) (g.D.Desk.state c.lines.desk) (so_far.rest tells) plain);
      rest = λ tells. rest_then (g.D.Desk.state c.args.desk.now) (g.D.Desk.state c.lines.desk) (g.D.Desk.state c.take_proof_line.new.desk) (so_far.rest tells) (failed.rest tells);
      faults = fails_on (g.D.Desk.faults c.args.desk.now) (g.D.Desk.faults c.lines.desk) (g.D.Desk.faults c.take_proof_line.new.desk) e so_far.writes so_far.reads failed.faults;
    })

pub lines-preserved : goal.lines-preserved
lines-preserved g c =
    let more = texts_of (c.take_proof_line.new.lines.unread ++ left_of Cert (g.D.Desk.state c.take_proof_line.new.desk)) in
    let next = c.take_proof_line.new.lines.number in
    let now = checking_of c.take_proof_line.new.checker in
    record {
      closed = c.in_ok-take_proof_line.ensures.closed;
      taken = c.in_ok-take_proof_line.ensures.taken;
      known = (let later = rw c.in-Going.is at c.in_ok-take_proof_line.ensures.known in λ f h k. later f h (c.lines.invariant.known f h k));
      same = λ tells. c.lines.invariant.same tells ∙ (rw c.in-Going.is at c.in_ok-take_proof_line.ensures.ok) tells;
      rest = λ tells. rest_then (g.D.Desk.state c.args.desk.now) (g.D.Desk.state c.lines.desk) (g.D.Desk.state c.take_proof_line.new.desk) (c.lines.invariant.rest tells) (c.in_ok-take_proof_line.ensures.rest tells);
      writes = c.in_ok-take_proof_line.ensures.faults.writes ∙ c.lines.invariant.writes;
      reads = c.in_ok-take_proof_line.ensures.faults.none not_read ∙ c.lines.invariant.reads;
    }

pub returns-in-Refuted-clause-ok : goal.returns-in-Refuted-clause-ok
returns-in-Refuted-clause-ok g c = λ tells. c.lines.invariant.same tells ∙ (rw c.in-Refuted.is at c.in_ok-take_proof_line.ensures.ok) tells

pub returns-in-Refuted-clause-shows : goal.returns-in-Refuted-clause-shows
returns-in-Refuted-clause-shows g c = λ f h k. (rw c.in-Refuted.is at c.in_ok-take_proof_line.ensures.known) f h (c.lines.invariant.known f h k)

pub returns-in-Refuted-clause-rest : goal.returns-in-Refuted-clause-rest
returns-in-Refuted-clause-rest g c = λ tells.
    rest_then (g.D.Desk.state c.args.desk.now) (g.D.Desk.state c.lines.desk) (g.D.Desk.state c.take_proof_line.new.desk) (c.lines.invariant.rest tells) (c.in_ok-take_proof_line.ensures.rest tells)

pub returns-in-Refuted-clause-faults : goal.returns-in-Refuted-clause-faults
returns-in-Refuted-clause-faults g c =
    fails_then (g.D.Desk.faults c.args.desk.now) (g.D.Desk.faults c.lines.desk) (g.D.Desk.faults c.take_proof_line.new.desk) _ _ c.lines.invariant.writes c.lines.invariant.reads (λ is. absurd (not_read is)) (λ is. absurd (not_read is)) c.in_ok-take_proof_line.ensures.faults
