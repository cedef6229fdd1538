use Rattle.std.proofs.Common.{rules, ◌≡◌, ◌+◌, ◌++◌, ℕ, Some, Ok, Err, ap, ◌∙◌, arith, length-append}
use Rattle.desk_io.specs.State.{left_of}
use Rattle.desk_io.specs.declared.Which.TheVariants.{Cert}
use Rattle.lrat_stream.specs.Outline.{outline_in}
use Rattle.cert_lines.specs.Texts.{texts_of}
use Rattle.cert_lines.proofs.Ends.{cert_or_memory}
use Rattle.cert_lines.proofs.ProofStarts.{blank_step}
use Rattle.cert_lines.proofs.Takings.{whole_text, number_behind, nothing_taken, same_texts}
use Rattle.cert_lines.proofs.proof.proof_line.Goals as goal

pub returns-in_default-clause-passed : goal.returns-in_default-clause-passed
returns-in_default-clause-passed g c = λ _.
    let old = c.args.lines.now in
    let left = left_of Cert (g.D.Desk.state c.args.desk.now) in
    let begun = c.begin_text.new.self in
    let begun_left = left_of Cert (g.D.Desk.state c.begin_text.new.desk) in
    let new = c.pass_over.new.lines in
    let new_left = left_of Cert (g.D.Desk.state c.pass_over.new.desk) in
    let some = c.in_ok-begin_text.ensures.some c.if-not-branch.false in
    let told = c.in_ok-first.ensures.passed (ap Ok c.in_default.is) in
    let bytes = begun.unread ++ begun_left in (
      told.0,
      told.2,
      λ tells.
          same_texts old.number begun.number (old.unread ++ left) bytes (Ok (Some (record { text = told.0; more = texts_of (new.unread ++ new_left) }))) c.begin_text.ensures.number (c.in_ok-begin_text.ensures.all tells)
          (whole_text g.D.Desk.tells begun.number bytes told.0 told.1 new new_left told.3 (omega (arith, some.1, length-append begun.unread begun_left)) (omega (arith, some.0, c.begin_text.ensures.number)) told.4 tells),
    )

pub returns-in_err-read_step-clause-err : goal.returns-in_err-read_step-clause-err
returns-in_err-read_step-clause-err g c =
    let old = c.args.lines.now in
    let left = left_of Cert (g.D.Desk.state c.args.desk.now) in
    let begun = c.begin_text.new.self in
    let begun_left = left_of Cert (g.D.Desk.state c.begin_text.new.desk) in
    let bytes = begun.unread ++ begun_left in
    let told = rw c.in-Some.is at c.in_ok-first.ensures.word in
    let e = c.in_err-read_step.field-0.0 in
    let r : c.from_residual-in_err-read_step.result ≡ Err e = search rules in
    rw r (λ tells. cert_or_memory e
    (λ fault long. same_texts old.number begun.number (old.unread ++ left) bytes (Err fault) c.begin_text.ensures.number (c.in_ok-begin_text.ensures.all tells) (long begun.number bytes (told.0 ++ c.pass_over.new.lines.part) told.3).text)
    (c.in_err-read_step.ensures.err tells))

pub returns-clause-step : goal.returns-clause-step
returns-clause-step g c = λ _.
    let old = c.args.lines.now in
    let left = left_of Cert (g.D.Desk.state c.args.desk.now) in
    let begun = c.begin_text.new.self in
    let begun_left = left_of Cert (g.D.Desk.state c.begin_text.new.desk) in
    let bytes = begun.unread ++ begun_left in
    let new = c.read_step.new.lines in
    let new_left = left_of Cert (g.D.Desk.state c.read_step.new.desk) in
    let checker = c.args.checker.now in
    let part = c.pass_over.new.lines.part in
    let some = c.in_ok-begin_text.ensures.some c.if-not-branch.false in
    let told = rw c.in-Some.is at c.in_ok-first.ensures.word in
    let line = c.in_ok-read_step.ensures.line in
    let text = (told.0 ++ part) ++ line.0 in (
      text,
      told.2 line.0,
      λ tells.
          same_texts old.number begun.number (old.unread ++ left) bytes (Ok (Some (record { text = text; more = texts_of (new.unread ++ new_left) }))) c.begin_text.ensures.number (c.in_ok-begin_text.ensures.all tells)
          (whole_text g.D.Desk.tells begun.number bytes text c.in_ok-read_step.field-0 new new_left c.in_ok-read_step.ensures.ended (omega (arith, some.1, length-append begun.unread begun_left)) (omega (arith, some.0, c.begin_text.ensures.number)) (line.2 begun.number bytes (told.0 ++ part) told.3) tells),
      ap (outline_in checker.rule checker.vars checker.database) (blank_step told.0 part line.0 told.1) ∙ line.3,
    )

pub returns-clause-number : goal.returns-clause-number
returns-clause-number g c = λ _.
    let begun = c.begin_text.new.self in
    let begun_left = left_of Cert (g.D.Desk.state c.begin_text.new.desk) in
    let bytes = begun.unread ++ begun_left in
    let new = c.read_step.new.lines in
    let new_left = left_of Cert (g.D.Desk.state c.read_step.new.desk) in
    let told = rw c.in-Some.is at c.in_ok-first.ensures.word in
    let came = told.0 ++ c.pass_over.new.lines.part in
    let line = c.in_ok-read_step.ensures.line in
    number_behind g.D.Desk.tells begun.number bytes (came ++ line.0) c.in_ok-read_step.field-0 new new_left c.in_ok-read_step.ensures.ended (line.2 begun.number bytes came told.3)
    ∙ ap (λ (k : ℕ). k + 1) c.begin_text.ensures.number

pub returns-clause-taken : goal.returns-clause-taken
returns-clause-taken g c = λ _.
    let begun = c.begin_text.new.self in
    let begun_left = left_of Cert (g.D.Desk.state c.begin_text.new.desk) in
    let bytes = begun.unread ++ begun_left in
    let new = c.read_step.new.lines in
    let new_left = left_of Cert (g.D.Desk.state c.read_step.new.desk) in
    let told = rw c.in-Some.is at c.in_ok-first.ensures.word in
    let came = told.0 ++ c.pass_over.new.lines.part in
    let line = c.in_ok-read_step.ensures.line in
    nothing_taken g.D.Desk.tells begun.number bytes (came ++ line.0) c.in_ok-read_step.field-0 new new_left c.in_ok-read_step.ensures.ended (line.2 begun.number bytes came told.3)
