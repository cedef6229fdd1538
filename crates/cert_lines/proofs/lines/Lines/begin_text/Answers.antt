use Rattle.std.proofs.Common.{◌≡◌, ◌<◌, ◌++◌, ℕ, List, length, Err, ap, sym, subst, ◌∙◌}
use Rattle.desk_io.specs.State.{left_of}
use Rattle.desk_io.specs.declared.Which.TheVariants.{Cert}
use Rattle.cert_lines.specs.Limits.{Unread}
use Rattle.cert_lines.specs.declared.faults.CertError.{CertError}
use Rattle.cert_lines.specs.declared.lines.TheConstants.{MAX_LINES}
use Rattle.cert_lines.proofs.Ends.{passed_on}
use Rattle.cert_lines.proofs.Takings.{first_too_many}
use Rattle.cert_lines.proofs.lines.Lines.begin_text.Goals as goal

pub returns-in_err-begin-clause-err : goal.returns-in_err-begin-clause-err
returns-in_err-begin-clause-err g c =
    let now = c.args.self.now in
    let left = left_of Cert (g.D.Desk.state c.args.desk.now) in
    let number : c.self.inside.number ≡ now.number = ap (λ (u : Unread). u.number) c.self.view_is in
    let r = passed_on c.from_residual-in_err-begin.result c.in_err-begin.field-0.0 c.from_residual-in_err-begin.ensures.1 in
    rw r (λ tells.
    let bytes : c.self.inside.bytes.unread ++ left ≡ now.unread ++ left = ap (λ (u : Unread). u.unread ++ left) c.self.view_is in
    let some : 0 < length (now.unread ++ left) = subst (λ (xs : List ℕ). 0 < length xs) bytes (c.in_ok-fill.ensures.left c.if-not-branch.false tells) in
    first_too_many now.number (now.unread ++ left) (subst (λ (k : ℕ). MAX_LINES < k) number c.in_err-begin.ensures.many) some
    ∙ ap (λ (x : CertError). Err x) (sym c.in_err-begin.ensures.err.0)
    )
