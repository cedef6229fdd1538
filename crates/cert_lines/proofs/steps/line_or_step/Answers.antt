use Rattle.std.proofs.Common.{rules, ◌≡◌, ◌++◌, ℕ, List, false, Err, inr, ap, sym, ◌∙◌}
use Rattle.desk_io.specs.State.{left_of}
use Rattle.desk_io.specs.declared.Which.TheVariants.{Cert}
use Rattle.cert_lines.specs.Lines.{lines_of}
use Rattle.cert_lines.specs.Limits.{next_line}
use Rattle.cert_lines.specs.Steps.{is_other}
use Rattle.cert_lines.specs.declared.faults.CertError.{CertError}
use Rattle.cert_lines.specs.declared.faults.CertError.TheVariants.{Truncated}
use Rattle.cert_lines.proofs.Ends.{on_cert, passed_on}
use Rattle.cert_lines.proofs.StepStarts.{step_front}
use Rattle.cert_lines.proofs.Takings.{first_part, first_long, whole_line, cut_line, number_behind, nothing_taken, same_text}
use Rattle.cert_lines.proofs.steps.line_or_step.Goals as goal

pub returns-in_err-first-clause-err : goal.returns-in_err-first-clause-err
returns-in_err-first-clause-err g c =
    let old = c.args.lines.now in
    let left = left_of Cert (g.D.Desk.state c.args.desk.now) in
    let e = c.in_err-first.field-0.0 in
    let r : c.from_residual-in_err-first.result ≡ Err e = search rules in
    rw r (λ tells. on_cert e (λ fault long. inr (first_long old.number old.taken (old.unread ++ left) fault c.requires.fresh long).line) (c.in_err-first.ensures.err tells))

pub returns-in_err-is_whole-clause-err : goal.returns-in_err-is_whole-clause-err
returns-in_err-is_whole-clause-err g c =
    let old = c.args.lines.now in
    let left = left_of Cert (g.D.Desk.state c.args.desk.now) in
    let mid = left_of Cert (g.D.Desk.state c.take_part.new.desk) in
    let part = c.take_part.new.self.part in
    let told = c.in_ok-end.ensures.line in
    let before = old.unread ++ left in
    let text = part ++ told.0 in
    let new = c.rest_of_line.new.self in
    let later = left_of Cert (g.D.Desk.state c.rest_of_line.new.desk) in
    let took = told.2 old.number before part (first_part g.D.Desk.tells old left c.in_ok-first.first c.take_part.new.self mid c.requires.fresh c.in_ok-first.ensures.part) in
    let r = passed_on c.from_residual-in_err-is_whole.result c.in_err-is_whole.field-0.0 c.from_residual-in_err-is_whole.ensures.1 in
    rw r (λ tells. inr (
    cut_line g.D.Desk.tells old.number before text c.in_ok-end.end new later c.in_err-is_whole.ensures.err.0 c.in_ok-begin.ensures.ok took tells
    ∙ ap (λ (k : ℕ). Err (Truncated k)) (sym c.number-number.ensures)
    ∙ ap (λ (x : CertError). Err x) (sym c.in_err-is_whole.ensures.err.1)
    ))

pub returns-then-is_other-clause-number : goal.returns-then-is_other-clause-number
returns-then-is_other-clause-number g c =
    let old = c.args.lines.now in
    let left = left_of Cert (g.D.Desk.state c.args.desk.now) in
    let mid = left_of Cert (g.D.Desk.state c.take_part.new.desk) in
    let part = c.take_part.new.self.part in
    let told = c.in_ok-end.ensures.line in
    let before = old.unread ++ left in
    let text = part ++ told.0 in
    let new = c.rest_of_line.new.self in
    let later = left_of Cert (g.D.Desk.state c.rest_of_line.new.desk) in
    let took = told.2 old.number before part (first_part g.D.Desk.tells old left c.in_ok-first.first c.take_part.new.self mid c.requires.fresh c.in_ok-first.ensures.part) in
    number_behind g.D.Desk.tells old.number before text c.in_ok-end.end new later c.in_ok-end.ensures.ended took

pub returns-then-is_other-clause-taken : goal.returns-then-is_other-clause-taken
returns-then-is_other-clause-taken g c =
    let old = c.args.lines.now in
    let left = left_of Cert (g.D.Desk.state c.args.desk.now) in
    let mid = left_of Cert (g.D.Desk.state c.take_part.new.desk) in
    let part = c.take_part.new.self.part in
    let told = c.in_ok-end.ensures.line in
    let before = old.unread ++ left in
    let text = part ++ told.0 in
    let new = c.rest_of_line.new.self in
    let later = left_of Cert (g.D.Desk.state c.rest_of_line.new.desk) in
    let took = told.2 old.number before part (first_part g.D.Desk.tells old left c.in_ok-first.first c.take_part.new.self mid c.requires.fresh c.in_ok-first.ensures.part) in
    nothing_taken g.D.Desk.tells old.number before text c.in_ok-end.end new later c.in_ok-end.ensures.ended took

pub returns-then-is_other-clause-text : goal.returns-then-is_other-clause-text
returns-then-is_other-clause-text g c = λ tells.
    let old = c.args.lines.now in
    let left = left_of Cert (g.D.Desk.state c.args.desk.now) in
    let mid = left_of Cert (g.D.Desk.state c.take_part.new.desk) in
    let part = c.take_part.new.self.part in
    let told = c.in_ok-end.ensures.line in
    let before = old.unread ++ left in
    let text = part ++ told.0 in
    let new = c.rest_of_line.new.self in
    let later = left_of Cert (g.D.Desk.state c.rest_of_line.new.desk) in
    let took = told.2 old.number before part (first_part g.D.Desk.tells old left c.in_ok-first.first c.take_part.new.self mid c.requires.fresh c.in_ok-first.ensures.part) in
    let items : c.rest_of_line.new.text.items ≡ text = told.1 ∙ ap (λ (xs : List ℕ). xs ++ text) c.new-text.ensures.items in
    same_text (next_line old.number (lines_of before)) text c.rest_of_line.new.text.items (lines_of (new.unread ++ later))
    (whole_line g.D.Desk.tells old.number before text c.in_ok-end.end new later c.in_ok-end.ensures.ended c.in_ok-is_whole.ensures.ok c.in_ok-begin.ensures.ok took tells) items

pub returns-in_err-is_whole-2-clause-err : goal.returns-in_err-is_whole-2-clause-err
returns-in_err-is_whole-2-clause-err g c =
    let old = c.args.lines.now in
    let left = left_of Cert (g.D.Desk.state c.args.desk.now) in
    let mid = left_of Cert (g.D.Desk.state c.take_part.new.desk) in
    let part = c.take_part.new.self.part in
    let told = c.in_ok-end-2.ensures.line in
    let before = old.unread ++ left in
    let text = part ++ told.0 in
    let new = c.read_step.new.lines in
    let later = left_of Cert (g.D.Desk.state c.read_step.new.desk) in
    let took = told.2 old.number before part (first_part g.D.Desk.tells old left c.in_ok-first.first c.take_part.new.self mid c.requires.fresh c.in_ok-first.ensures.part) in
    let r = passed_on c.from_residual-in_err-is_whole-2.result c.in_err-is_whole-2.field-0.0 c.from_residual-in_err-is_whole-2.ensures.1 in
    rw r (λ tells. inr (
    cut_line g.D.Desk.tells old.number before text c.in_ok-end-2.end new later c.in_err-is_whole-2.ensures.err.0 c.in_ok-begin.ensures.ok took tells
    ∙ ap (λ (k : ℕ). Err (Truncated k)) (sym c.number-number.ensures)
    ∙ ap (λ (x : CertError). Err x) (sym c.in_err-is_whole-2.ensures.err.1)
    ))

pub returns-clause-number : goal.returns-clause-number
returns-clause-number g c =
    let old = c.args.lines.now in
    let left = left_of Cert (g.D.Desk.state c.args.desk.now) in
    let mid = left_of Cert (g.D.Desk.state c.take_part.new.desk) in
    let part = c.take_part.new.self.part in
    let told = c.in_ok-end-2.ensures.line in
    let before = old.unread ++ left in
    let text = part ++ told.0 in
    let new = c.read_step.new.lines in
    let later = left_of Cert (g.D.Desk.state c.read_step.new.desk) in
    let took = told.2 old.number before part (first_part g.D.Desk.tells old left c.in_ok-first.first c.take_part.new.self mid c.requires.fresh c.in_ok-first.ensures.part) in
    number_behind g.D.Desk.tells old.number before text c.in_ok-end-2.end new later c.in_ok-end-2.ensures.ended took

pub returns-clause-taken : goal.returns-clause-taken
returns-clause-taken g c =
    let old = c.args.lines.now in
    let left = left_of Cert (g.D.Desk.state c.args.desk.now) in
    let mid = left_of Cert (g.D.Desk.state c.take_part.new.desk) in
    let part = c.take_part.new.self.part in
    let told = c.in_ok-end-2.ensures.line in
    let before = old.unread ++ left in
    let text = part ++ told.0 in
    let new = c.read_step.new.lines in
    let later = left_of Cert (g.D.Desk.state c.read_step.new.desk) in
    let took = told.2 old.number before part (first_part g.D.Desk.tells old left c.in_ok-first.first c.take_part.new.self mid c.requires.fresh c.in_ok-first.ensures.part) in
    nothing_taken g.D.Desk.tells old.number before text c.in_ok-end-2.end new later c.in_ok-end-2.ensures.ended took

pub returns-clause-step : goal.returns-clause-step
returns-clause-step g c = λ _.
    let old = c.args.lines.now in
    let left = left_of Cert (g.D.Desk.state c.args.desk.now) in
    let mid = left_of Cert (g.D.Desk.state c.take_part.new.desk) in
    let part = c.take_part.new.self.part in
    let told = c.in_ok-end-2.ensures.line in
    let before = old.unread ++ left in
    let text = part ++ told.0 in
    let new = c.read_step.new.lines in
    let later = left_of Cert (g.D.Desk.state c.read_step.new.desk) in
    let took = told.2 old.number before part (first_part g.D.Desk.tells old left c.in_ok-first.first c.take_part.new.self mid c.requires.fresh c.in_ok-first.ensures.part) in
    let no_other : is_other part ≡ false = ap is_other (sym c.part.ensures) ∙ sym c.is_other.ensures ∙ c.if-is_other.false in (
      text,
      step_front c.in_ok-first.first part told.0 c.in_ok-first.ensures.part.grows told.1 ∙ no_other,
      λ tells. whole_line g.D.Desk.tells old.number before text c.in_ok-end-2.end new later c.in_ok-end-2.ensures.ended c.in_ok-is_whole-2.ensures.ok c.in_ok-begin.ensures.ok took tells,
      told.3,
    )
