use Rattle.std.proofs.Common.{rules, ◌≡◌, ◌++◌, Err, refl, ◌∙◌, ap, subst}
use Rattle.desk_io.specs.State.{left_of}
use Rattle.desk_io.specs.declared.Which.TheVariants.{Cert}
use Rattle.cert_lines.specs.Lines.{lines_of}
use Rattle.cert_lines.proofs.Ends.{cert_or_memory}
use Rattle.certificate_file.specs.Acceptance.{check_lines}
use Rattle.certificate_file.specs.Known.{IsKnownState}
use Rattle.certificate_file.specs.declared.places.State.{State}
use Rattle.certificate_file.proofs.Desks.{rest_then, plain_then, fails_then, fails_on, same_fault, not_read}
use Rattle.certificate_file.proofs.checking.take_lines.Goals as goal

pub lines-init : goal.lines-init
lines-init g c = record {
  known = tt;
  taken = c.requires.fresh;
  same = λ tells. refl;
  rest = λ tells. refl;
  writes = refl;
  reads = refl;
}

pub returns-in_err-next : goal.returns-in_err-next
returns-in_err-next g c =
    let e = c.in_err-next.field-0.0 in
    let r : c.from_residual.result ≡ Err e = search rules in
    let so_far = c.lines.invariant in
    let failed = c.in_err-next.ensures in
    rw r (record {
      shown = tt;
      ok = tt;
      err = λ tells. cert_or_memory e (λ _ fault. so_far.same tells ∙ fault) (failed.err tells);
      plain = λ is tells plain. failed.plain (same_fault e is) tells (plain_then (g.D.Desk.state c.args.desk.now) (g.D.Desk.state c.lines.desk) (so_far.rest tells) plain);
      rest = λ tells. rest_then (g.D.Desk.state c.args.desk.now) (g.D.Desk.state c.lines.desk) (g.D.Desk.state c.next_state.new.desk) (so_far.rest tells) (failed.rest tells);
      faults = fails_on (g.D.Desk.faults c.args.desk.now) (g.D.Desk.faults c.lines.desk) (g.D.Desk.faults c.next_state.new.desk) e so_far.writes so_far.reads failed.faults;
    })

pub lines-preserved : goal.lines-preserved
lines-preserved g c =
    let f = c.args.system.now in
    let given = c.args.given.now in
    let more = lines_of (c.next_state.new.lines.unread ++ left_of Cert (g.D.Desk.state c.next_state.new.desk)) in
    record {
      known = subst (IsKnownState f given) c.in-Going.is c.in_ok-next.ensures.known;
      taken = c.in_ok-next.ensures.taken;
      same = λ tells. c.lines.invariant.same tells ∙ c.in_ok-next.ensures.ok tells ∙ ap (λ (s : State). check_lines f given c.next_state.new.lines.number s more) c.in-Going.is;
      rest = λ tells. rest_then (g.D.Desk.state c.args.desk.now) (g.D.Desk.state c.lines.desk) (g.D.Desk.state c.next_state.new.desk) (c.lines.invariant.rest tells) (c.in_ok-next.ensures.rest tells);
      writes = c.in_ok-next.ensures.faults.writes ∙ c.lines.invariant.writes;
      reads = c.in_ok-next.ensures.faults.none not_read ∙ c.lines.invariant.reads;
    }

pub returns-in-Done-clause-shown : goal.returns-in-Done-clause-shown
returns-in-Done-clause-shown g c = subst (IsKnownState c.args.system.now c.args.given.now) c.in-Done.is c.in_ok-next.ensures.known

pub returns-in-Done-clause-ok : goal.returns-in-Done-clause-ok
returns-in-Done-clause-ok g c = λ tells.
    let f = c.args.system.now in
    let given = c.args.given.now in
    let more = lines_of (c.next_state.new.lines.unread ++ left_of Cert (g.D.Desk.state c.next_state.new.desk)) in
    c.lines.invariant.same tells
    ∙ c.in_ok-next.ensures.ok tells
    ∙ ap (λ (s : State). check_lines f given c.next_state.new.lines.number s more) c.in-Done.is

pub returns-in-Done-clause-rest : goal.returns-in-Done-clause-rest
returns-in-Done-clause-rest g c = λ tells.
    rest_then (g.D.Desk.state c.args.desk.now) (g.D.Desk.state c.lines.desk) (g.D.Desk.state c.next_state.new.desk) (c.lines.invariant.rest tells) (c.in_ok-next.ensures.rest tells)

pub returns-in-Done-clause-faults : goal.returns-in-Done-clause-faults
returns-in-Done-clause-faults g c =
    fails_then (g.D.Desk.faults c.args.desk.now) (g.D.Desk.faults c.lines.desk) (g.D.Desk.faults c.next_state.new.desk) _ _ c.lines.invariant.writes c.lines.invariant.reads (λ is. absurd (not_read is)) (λ is. absurd (not_read is)) c.in_ok-next.ensures.faults
