use Rattle.std.proofs.Common.{rules, ◌≡◌, ◌≤◌, ◌++◌, ℕ, List, Err, inr, ap, sym, ◌∙◌, arith}
use Rattle.desk_io.specs.State.{left_of}
use Rattle.desk_io.specs.declared.Which.TheVariants.{Cert}
use Rattle.cert_lines.specs.Lines.{lines_of}
use Rattle.cert_lines.specs.Limits.{Unread, next_line}
use Rattle.cert_lines.specs.declared.lines.TheConstants.{MAX_LINES}
use Rattle.cert_lines.specs.declared.faults.CertError.{CertError}
use Rattle.cert_lines.specs.declared.faults.CertError.TheVariants.{Truncated}
use Rattle.cert_lines.proofs.Ends.{on_cert, passed_on}
use Rattle.cert_lines.proofs.Takings.{first_part, first_long, whole_line, cut_line, number_behind, nothing_taken, same_text}
use Rattle.cert_lines.proofs.lines.Lines.line.Goals as goal

pub returns-in_err-first-clause-err : goal.returns-in_err-first-clause-err
returns-in_err-first-clause-err g c =
    let old = c.args.self.now in
    let left = left_of Cert (g.D.Desk.state c.args.desk.now) in
    let e = c.in_err-first.field-0.0 in
    let r : c.from_residual-in_err-first.result ≡ Err e = search rules in
    rw r (λ tells. on_cert e (λ fault long. inr (first_long old.number old.taken (old.unread ++ left) fault c.requires long).line) (c.in_err-first.ensures.err tells))

pub returns-in_err-is_whole-clause-err : goal.returns-in_err-is_whole-clause-err
returns-in_err-is_whole-clause-err g c =
    let old = c.args.self.now in
    let left = left_of Cert (g.D.Desk.state c.args.desk.now) in
    let mid = left_of Cert (g.D.Desk.state c.take_part.new.desk) in
    let later = left_of Cert (g.D.Desk.state c.rest_of_line.new.desk) in
    let before = old.unread ++ left in
    let told = c.in_ok-end.ensures.line in
    let took = told.2 old.number before c.take_part.new.self.part (first_part g.D.Desk.tells old left c.in_ok-first.first c.take_part.new.self mid c.requires c.in_ok-first.ensures.part) in
    let number : c.self.inside.number ≡ old.number = ap (λ (u : Unread). u.number) c.self.view_is in
    let few : old.number ≤ MAX_LINES = omega (arith, number, c.in_ok-begin.ensures.ok) in
    let r = passed_on c.from_residual-in_err-is_whole.result c.in_err-is_whole.field-0.0 c.from_residual-in_err-is_whole.ensures.1 in
    rw r (λ tells. inr (
    cut_line g.D.Desk.tells old.number before (c.take_part.new.self.part ++ told.0) c.in_ok-end.end c.rest_of_line.new.self later c.in_err-is_whole.ensures.err.0 few took tells
    ∙ ap (λ (k : ℕ). Err (Truncated k)) (sym number)
    ∙ ap (λ (x : CertError). Err x) (sym c.in_err-is_whole.ensures.err.1)
    ))

pub returns-clause-line : goal.returns-clause-line
returns-clause-line g c = λ tells.
    let old = c.args.self.now in
    let left = left_of Cert (g.D.Desk.state c.args.desk.now) in
    let mid = left_of Cert (g.D.Desk.state c.take_part.new.desk) in
    let later = left_of Cert (g.D.Desk.state c.rest_of_line.new.desk) in
    let before = old.unread ++ left in
    let new = c.rest_of_line.new.self in
    let told = c.in_ok-end.ensures.line in
    let text = c.take_part.new.self.part ++ told.0 in
    let took = told.2 old.number before c.take_part.new.self.part (first_part g.D.Desk.tells old left c.in_ok-first.first c.take_part.new.self mid c.requires c.in_ok-first.ensures.part) in
    let number : c.self.inside.number ≡ old.number = ap (λ (u : Unread). u.number) c.self.view_is in
    let few : old.number ≤ MAX_LINES = omega (arith, number, c.in_ok-begin.ensures.ok) in
    let items : c.rest_of_line.new.text.items ≡ text = told.1 ∙ ap (λ (xs : List ℕ). xs ++ text) c.new-text.ensures.items in
    same_text (next_line old.number (lines_of before)) text c.rest_of_line.new.text.items (lines_of (new.unread ++ later))
    (whole_line g.D.Desk.tells old.number before text c.in_ok-end.end new later c.in_ok-end.ensures.ended c.in_ok-is_whole.ensures.ok few took tells) items

pub returns-clause-number : goal.returns-clause-number
returns-clause-number g c =
    let old = c.args.self.now in
    let left = left_of Cert (g.D.Desk.state c.args.desk.now) in
    let mid = left_of Cert (g.D.Desk.state c.take_part.new.desk) in
    let later = left_of Cert (g.D.Desk.state c.rest_of_line.new.desk) in
    let told = c.in_ok-end.ensures.line in
    let took = told.2 old.number (old.unread ++ left) c.take_part.new.self.part (first_part g.D.Desk.tells old left c.in_ok-first.first c.take_part.new.self mid c.requires c.in_ok-first.ensures.part) in
    number_behind g.D.Desk.tells old.number (old.unread ++ left) (c.take_part.new.self.part ++ told.0) c.in_ok-end.end c.rest_of_line.new.self later c.in_ok-end.ensures.ended took

pub returns-clause-taken : goal.returns-clause-taken
returns-clause-taken g c =
    let old = c.args.self.now in
    let left = left_of Cert (g.D.Desk.state c.args.desk.now) in
    let mid = left_of Cert (g.D.Desk.state c.take_part.new.desk) in
    let later = left_of Cert (g.D.Desk.state c.rest_of_line.new.desk) in
    let told = c.in_ok-end.ensures.line in
    let took = told.2 old.number (old.unread ++ left) c.take_part.new.self.part (first_part g.D.Desk.tells old left c.in_ok-first.first c.take_part.new.self mid c.requires c.in_ok-first.ensures.part) in
    nothing_taken g.D.Desk.tells old.number (old.unread ++ left) (c.take_part.new.self.part ++ told.0) c.in_ok-end.end c.rest_of_line.new.self later c.in_ok-end.ensures.ended took
