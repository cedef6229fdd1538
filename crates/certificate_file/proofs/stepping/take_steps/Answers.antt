use Rattle.std.proofs.Common.{rules, ◌≡◌, ℕ, ◌++◌, Err, inl, inr, refl, sym, ap, ◌∙◌, subst, arith}
use Rattle.desk_io.specs.State.{left_of}
use Rattle.desk_io.specs.declared.Which.TheVariants.{Cert}
use Rattle.fbas_model.specs.Systems.{System}
use Rattle.lrat_checker.specs.Checking.{Stepping}
use Rattle.cert_lines.specs.Lines.{lines_of}
use Rattle.cert_lines.proofs.Ends.{cert_or_memory, passed_on}
use Rattle.certificate_file.specs.declared.given.Given.{Given}
use Rattle.certificate_file.specs.Acceptance.{take_line, check_lines}
use Rattle.reach_kinds.specs.Bodies.{and_then}
use Rattle.certificate_file.specs.Known.{IsKnown}
use Rattle.certificate_file.specs.Streamed.{place_of, end_of, checking_of}
use Rattle.certificate_file.specs.declared.places.State.TheVariants.{Going}
use Rattle.certificate_file.proofs.Desks.{rest_then, plain_then, fails_then, fails_on, fails_faulty, same_fault, not_read, not_faulty}
use Rattle.certificate_file.proofs.Steps.{check_lines-line, check_lines-fault, check_lines-taken, check_lines-refused}
use Rattle.certificate_file.proofs.StreamLaws.{read_line, known_after}
use Rattle.certificate_file.proofs.stepping.take_steps.Goals as goal

pub returns-in-Some-clause-known : goal.returns-in-Some-clause-known
returns-in-Some-clause-known g c = λ f given k.
    let same = rw c.in-Some.is at c.in_ok-text.ensures.same in
    subst (λ (x : Stepping). IsKnown f given (place_of c.args.proof.now (checking_of x) c.steps.units)) (sym same) (c.steps.invariant.known f given k)

pub returns-in-Some-clause-ok : goal.returns-in-Some-clause-ok
returns-in-Some-clause-ok g c = λ tells f given.
    let p = c.args.proof.now in
    let l = c.steps.lines.number in
    let place = place_of p (checking_of c.steps.checker) c.steps.units in
    let ls = lines_of (c.steps.lines.unread ++ left_of Cert (g.D.Desk.state c.steps.desk)) in
    let more = lines_of (c.line_or_step.new.lines.unread ++ left_of Cert (g.D.Desk.state c.line_or_step.new.desk)) in
    let same = rw c.in-Some.is at c.in_ok-text.ensures.same in
    let told = rw c.in-Some.is at c.in_ok-text.ensures.text in
    c.steps.invariant.same tells f given
    ∙ check_lines-line f given l place ls more c.in-Some.text.items (told tells)
    ∙ ap (λ (n : ℕ). and_then (λ s. check_lines f given n s more) (take_line f given place l c.in-Some.text.items)) (sym c.in_ok-text.ensures.number)
    ∙ ap (λ (n : ℕ). and_then (λ s. check_lines f given c.line_or_step.new.lines.number s more) (take_line f given place n c.in-Some.text.items)) (sym c.number-line.ensures)
    ∙ ap (λ (x : Stepping). and_then (λ s. check_lines f given c.line_or_step.new.lines.number s more) (take_line f given (place_of p (checking_of x) c.steps.units) c.number-line.result c.in-Some.text.items)) (sym same)

pub returns-in-Some-clause-rest : goal.returns-in-Some-clause-rest
returns-in-Some-clause-rest g c = λ tells.
    rest_then (g.D.Desk.state c.args.desk.now) (g.D.Desk.state c.steps.desk) (g.D.Desk.state c.line_or_step.new.desk) (c.steps.invariant.rest tells) (c.in_ok-text.ensures.rest tells)

pub returns-in-Some-clause-faults : goal.returns-in-Some-clause-faults
returns-in-Some-clause-faults g c =
    fails_then (g.D.Desk.faults c.args.desk.now) (g.D.Desk.faults c.steps.desk) (g.D.Desk.faults c.line_or_step.new.desk) _ _ c.steps.invariant.writes c.steps.invariant.reads (λ is. absurd (not_read is)) (λ is. absurd (not_read is)) c.in_ok-text.ensures.faults

pub returns-in_err-text : goal.returns-in_err-text
returns-in_err-text g c =
    let p = c.args.proof.now in
    let place = place_of p (checking_of c.steps.checker) c.steps.units in
    let ls = lines_of (c.steps.lines.unread ++ left_of Cert (g.D.Desk.state c.steps.desk)) in
    let so_far = c.steps.invariant in
    let failed = c.in_err-text.ensures in
    let e = c.in_err-text.field-0.0 in
    let r : c.from_residual.result ≡ Err e = search rules in
    rw r (record {
      closed = tt;
      known = tt;
      ok = tt;
      few = tt;
      number = tt;
      taken = tt;
      err = λ tells. cert_or_memory e (λ bad fault f given. so_far.same tells f given ∙ check_lines-fault f given c.steps.lines.number place ls bad fault) (failed.err tells);
      plain = λ is tells plain. failed.plain (same_fault e is) tells (plain_then (g.D.Desk.state c.args.desk.now) (g.D.Desk.state c.steps.desk) (so_far.rest tells) plain);
      rest = λ tells. rest_then (g.D.Desk.state c.args.desk.now) (g.D.Desk.state c.steps.desk) (g.D.Desk.state c.line_or_step.new.desk) (so_far.rest tells) (failed.rest tells);
      faults = fails_on (g.D.Desk.faults c.args.desk.now) (g.D.Desk.faults c.steps.desk) (g.D.Desk.faults c.line_or_step.new.desk) e so_far.writes so_far.reads failed.faults;
    })

pub returns-in_err-take_read-in-None : goal.returns-in_err-take_read-in-None
returns-in_err-take_read-in-None g c =
    let p = c.args.proof.now in
    let l = c.steps.lines.number in
    let place = place_of p (checking_of c.steps.checker) c.steps.units in
    let ls = lines_of (c.steps.lines.unread ++ left_of Cert (g.D.Desk.state c.steps.desk)) in
    let more = lines_of (c.line_or_step.new.lines.unread ++ left_of Cert (g.D.Desk.state c.line_or_step.new.desk)) in
    let told = c.in_ok-text.ensures.step (rw c.in-None.is refl) in
    let failed = c.in_err-take_read-in-None.ensures in
    let e = c.in_err-take_read-in-None.field-0.0 in
    let r = passed_on c.from_residual-in_err-take_read-in-None.result e c.from_residual-in_err-take_read-in-None.ensures.1 in
    rw r (record {
      closed = tt;
      known = tt;
      ok = tt;
      few = tt;
      number = tt;
      taken = tt;
      err = λ tells. elim failed.err [
        | inl memory ↦ inl memory
        | inr fault ↦ inr (λ f given.
            c.steps.invariant.same tells f given
            ∙ check_lines-refused f given l place ls more told.0 e (told.2 tells)
            (read_line f given p c.is_part-is_part.result c.steps.checker c.line_or_step.new.checker c.steps.units l c.number-line.result c.line_or_step.new.reader.words told.0 (Err e)
            c.in_ok-text.ensures.rule c.in_ok-text.ensures.vars c.in_ok-text.ensures.database c.number-line.ensures c.is_part-is_part.ensures told.1 told.3 fault))
      ];
      plain = λ is. absurd (not_faulty e is);
      rest = λ tells. rest_then (g.D.Desk.state c.args.desk.now) (g.D.Desk.state c.steps.desk) (g.D.Desk.state c.line_or_step.new.desk) (c.steps.invariant.rest tells) (c.in_ok-text.ensures.rest tells);
      faults = fails_faulty (g.D.Desk.faults c.args.desk.now) (g.D.Desk.faults c.steps.desk) (g.D.Desk.faults c.line_or_step.new.desk) _ e c.steps.invariant.writes c.steps.invariant.reads c.in_ok-text.ensures.faults;
    })

pub steps-preserved : goal.steps-preserved
steps-preserved g c =
    let p = c.args.proof.now in
    let l = c.steps.lines.number in
    let place = place_of p (checking_of c.steps.checker) c.steps.units in
    let next = Going (place_of p (checking_of c.take_read.new.checker) c.take_read.new.units) in
    let ls = lines_of (c.steps.lines.unread ++ left_of Cert (g.D.Desk.state c.steps.desk)) in
    let more = lines_of (c.line_or_step.new.lines.unread ++ left_of Cert (g.D.Desk.state c.line_or_step.new.desk)) in
    let told = c.in_ok-text.ensures.step (rw c.in-None.is refl) in
    let came = rw c.in-Going.is at c.in_ok-take_read-in-None.ensures.ok in
    let took = λ (f : System) (given : Given).
    read_line f given p c.is_part-is_part.result c.steps.checker c.line_or_step.new.checker c.steps.units l c.number-line.result c.line_or_step.new.reader.words told.0 _
    c.in_ok-text.ensures.rule c.in_ok-text.ensures.vars c.in_ok-text.ensures.database c.number-line.ensures c.is_part-is_part.ensures told.1 told.3 came in
    record {
      closed = c.in_ok-take_read-in-None.ensures.closed;
      taken = c.in_ok-text.ensures.taken;
      number = (let before = c.steps.invariant.number in let more = c.in_ok-text.ensures.number in omega arith);
      known = λ f given k. known_after f given p (checking_of c.steps.checker) c.steps.units l told.0 next (c.steps.invariant.known f given k) (took f given);
      same = λ tells f given.
          c.steps.invariant.same tells f given
          ∙ check_lines-taken f given l place ls more told.0 next (told.2 tells) (took f given)
          ∙ ap (λ (x : ℕ). check_lines f given x next more) (sym c.in_ok-text.ensures.number);
      rest = λ tells. rest_then (g.D.Desk.state c.args.desk.now) (g.D.Desk.state c.steps.desk) (g.D.Desk.state c.line_or_step.new.desk) (c.steps.invariant.rest tells) (c.in_ok-text.ensures.rest tells);
      writes = c.in_ok-text.ensures.faults.writes ∙ c.steps.invariant.writes;
      reads = c.in_ok-text.ensures.faults.none not_read ∙ c.steps.invariant.reads;
    }

pub returns-in-Refuted-clause-known : goal.returns-in-Refuted-clause-known
returns-in-Refuted-clause-known g c = λ f given k.
    let p = c.args.proof.now in
    let l = c.steps.lines.number in
    let told = c.in_ok-text.ensures.step (rw c.in-None.is refl) in
    let came = rw c.in-Refuted.is at c.in_ok-take_read-in-None.ensures.ok in
    known_after f given p (checking_of c.steps.checker) c.steps.units l told.0 (Going (end_of p)) (c.steps.invariant.known f given k)
    (read_line f given p c.is_part-is_part.result c.steps.checker c.line_or_step.new.checker c.steps.units l c.number-line.result c.line_or_step.new.reader.words told.0 _
    c.in_ok-text.ensures.rule c.in_ok-text.ensures.vars c.in_ok-text.ensures.database c.number-line.ensures c.is_part-is_part.ensures told.1 told.3 came)

pub returns-in-Refuted-clause-ok : goal.returns-in-Refuted-clause-ok
returns-in-Refuted-clause-ok g c = λ tells f given.
    let p = c.args.proof.now in
    let l = c.steps.lines.number in
    let place = place_of p (checking_of c.steps.checker) c.steps.units in
    let ls = lines_of (c.steps.lines.unread ++ left_of Cert (g.D.Desk.state c.steps.desk)) in
    let more = lines_of (c.line_or_step.new.lines.unread ++ left_of Cert (g.D.Desk.state c.line_or_step.new.desk)) in
    let told = c.in_ok-text.ensures.step (rw c.in-None.is refl) in
    let came = rw c.in-Refuted.is at c.in_ok-take_read-in-None.ensures.ok in
    c.steps.invariant.same tells f given
    ∙ check_lines-taken f given l place ls more told.0 (Going (end_of p)) (told.2 tells)
    (read_line f given p c.is_part-is_part.result c.steps.checker c.line_or_step.new.checker c.steps.units l c.number-line.result c.line_or_step.new.reader.words told.0 _
    c.in_ok-text.ensures.rule c.in_ok-text.ensures.vars c.in_ok-text.ensures.database c.number-line.ensures c.is_part-is_part.ensures told.1 told.3 came)
    ∙ ap (λ (x : ℕ). check_lines f given x (Going (end_of p)) more) (sym c.in_ok-text.ensures.number)

pub returns-in-Refuted-clause-rest : goal.returns-in-Refuted-clause-rest
returns-in-Refuted-clause-rest g c = λ tells.
    rest_then (g.D.Desk.state c.args.desk.now) (g.D.Desk.state c.steps.desk) (g.D.Desk.state c.line_or_step.new.desk) (c.steps.invariant.rest tells) (c.in_ok-text.ensures.rest tells)

pub returns-in-Refuted-clause-faults : goal.returns-in-Refuted-clause-faults
returns-in-Refuted-clause-faults g c =
    fails_then (g.D.Desk.faults c.args.desk.now) (g.D.Desk.faults c.steps.desk) (g.D.Desk.faults c.line_or_step.new.desk) _ _ c.steps.invariant.writes c.steps.invariant.reads (λ is. absurd (not_read is)) (λ is. absurd (not_read is)) c.in_ok-text.ensures.faults

pub returns-in-Refuted-clause-err : goal.returns-in-Refuted-clause-err
returns-in-Refuted-clause-err g c = tt
