use Rattle.std.proofs.Common.{ℕ, List, ◌++◌, refl, sym, ap, ◌∙◌, inl, inr, arith}
use Rattle.desk_io.specs.State.{left_of}
use Rattle.desk_io.specs.declared.Which.TheVariants.{Cert}
use Rattle.cert_lines.specs.Lines.{lines_of}
use Rattle.cert_lines.proofs.Ends.{cert_or_memory, passed_on}
use Rattle.certificate_file.specs.Acceptance.{take_line, check_lines}
use Rattle.reach_kinds.specs.Bodies.{and_then}
use Rattle.certificate_file.proofs.Desks.{fails_as, fails_faulty, not_read, not_faulty}
use Rattle.certificate_file.proofs.Steps.{check_lines-line, check_lines-fault}
use Rattle.certificate_file.proofs.reading.next_state.Goals as goal

pub returns-in_ok-take_line-in-Ok-line-clause-few : goal.returns-in_ok-take_line-in-Ok-line-clause-few
returns-in_ok-take_line-in-Ok-line-clause-few g c = omega (arith, c.in-Ok-line.ensures.few, c.in-Ok-line.ensures.number)

pub returns-in_ok-take_line-in-Ok-line-clause-number : goal.returns-in_ok-take_line-in-Ok-line-clause-number
returns-in_ok-take_line-in-Ok-line-clause-number g c = omega (arith, c.in-Ok-line.ensures.number)

pub returns-in_ok-take_line-in-Ok-line-clause-faults : goal.returns-in_ok-take_line-in-Ok-line-clause-faults
returns-in_ok-take_line-in-Ok-line-clause-faults g c = fails_as (g.D.Desk.faults c.args.desk.now) (g.D.Desk.faults c.line.new.desk) _ _ (λ is. absurd (not_read is)) (λ is. absurd (not_read is)) c.in-Ok-line.ensures.faults

pub returns-in_ok-take_line-in-Ok-line-clause-ok : goal.returns-in_ok-take_line-in-Ok-line-clause-ok
returns-in_ok-take_line-in-Ok-line-clause-ok g c = rw (sym c.in-Err.ensures.other) (λ tells.
    let f = c.args.system.now in
    let given = c.args.given.now in
    let p = c.in-Err.other in
    let l = c.args.lines.now.number in
    let n = c.line.new.self.number in
    let ls = lines_of (c.args.lines.now.unread ++ left_of Cert (g.D.Desk.state c.args.desk.now)) in
    let more = lines_of (c.line.new.self.unread ++ left_of Cert (g.D.Desk.state c.line.new.desk)) in
    let text : List ℕ = c.in-Ok-line.text.items in
    check_lines-line f given l p ls more text (c.in-Ok-line.ensures.line tells)
    ∙ ap (λ (x : ℕ). and_then (λ s. check_lines f given x s more) (take_line f given p l text)) (sym c.in-Ok-line.ensures.number)
    ∙ ap (λ (x : ℕ). and_then (λ s. check_lines f given n s more) (take_line f given p x text)) (sym c.number-line.ensures)
    ∙ ap (λ (b : List ℕ). and_then (λ s. check_lines f given n s more) (take_line f given p c.number-line.result b)) (sym c.deref.ensures.value)
    ∙ ap (and_then (λ s. check_lines f given n s more)) c.in_ok-take_line-in-Ok-line.ensures.ok)

pub returns-in_err-take_line-in-Ok-line : goal.returns-in_err-take_line-in-Ok-line
returns-in_err-take_line-in-Ok-line g c =
    let f = c.args.system.now in
    let given = c.args.given.now in
    let p = c.in-Err.other in
    let l = c.args.lines.now.number in
    let n = c.line.new.self.number in
    let ls = lines_of (c.args.lines.now.unread ++ left_of Cert (g.D.Desk.state c.args.desk.now)) in
    let more = lines_of (c.line.new.self.unread ++ left_of Cert (g.D.Desk.state c.line.new.desk)) in
    let text : List ℕ = c.in-Ok-line.text.items in
    let e = c.in_err-take_line-in-Ok-line.field-0.0 in
    let r = passed_on c.from_residual.result e c.from_residual.ensures.1 in
    rw r (record {
      known = tt;
      few = tt;
      number = tt;
      taken = tt;
      ok = tt;
      err = rw (sym c.in-Err.ensures.other) (λ tells. elim c.in_err-take_line-in-Ok-line.ensures.err [
        | inl memory ↦ inl memory
        | inr refused ↦ inr (
            check_lines-line f given l p ls more text (c.in-Ok-line.ensures.line tells)
            ∙ ap (λ (x : ℕ). and_then (λ s. check_lines f given x s more) (take_line f given p l text)) (sym c.in-Ok-line.ensures.number)
            ∙ ap (λ (x : ℕ). and_then (λ s. check_lines f given n s more) (take_line f given p x text)) (sym c.number-line.ensures)
            ∙ ap (λ (b : List ℕ). and_then (λ s. check_lines f given n s more) (take_line f given p c.number-line.result b)) (sym c.deref.ensures.value)
            ∙ ap (and_then (λ s. check_lines f given n s more)) refused)
      ]);
      plain = λ is. absurd (not_faulty e is);
      rest = c.in-Ok-line.ensures.rest;
      faults = fails_faulty (g.D.Desk.faults c.args.desk.now) (g.D.Desk.faults c.args.desk.now) (g.D.Desk.faults c.line.new.desk) _ e refl refl c.in-Ok-line.ensures.faults;
    })

pub returns-in-Err-line-clause-err : goal.returns-in-Err-line-clause-err
returns-in-Err-line-clause-err g c = rw (sym c.in-Err.ensures.other) (λ tells.
    let ls = lines_of (c.args.lines.now.unread ++ left_of Cert (g.D.Desk.state c.args.desk.now)) in
    cert_or_memory c.in-Err-line.fault (check_lines-fault c.args.system.now c.args.given.now c.args.lines.now.number c.in-Err.other ls) (c.in-Err-line.ensures.err tells))

pub returns-in-Ok-clause-ok : goal.returns-in-Ok-clause-ok
returns-in-Ok-clause-ok g c = rw (sym c.in-Ok.ensures.steps) c.next_steps.ensures.ok

pub returns-in-Ok-clause-err : goal.returns-in-Ok-clause-err
returns-in-Ok-clause-err g c = rw (sym c.in-Ok.ensures.steps) c.next_steps.ensures.err
