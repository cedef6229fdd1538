use Rattle.std.proofs.Common.{◌≤◌, ℕ, inl, inr, sym, ◌∙◌, subst}
use Rattle.std.proofs.lemmas.Result.{IfOk-weaker, IfErr-weaker}
use Rattle.desk_io.specs.State.{left_of}
use Rattle.desk_io.specs.declared.Which.TheVariants.{Cert}
use Rattle.clause_encoder.specs.declared.limits.TheConstants.{MOST_VARS}
use Rattle.cert_lines.proofs.Ends.{cert_or_memory, passed_on}
use Rattle.certificate_file.specs.Streamed.{checking_of}
use Rattle.certificate_file.proofs.VerificationLaws.{formula_opened, opened_known, verified-small, verified-large}
use Rattle.certificate_file.proofs.verification.check_lrat.Goals as goal

pub returns-in_err-checker-clause-err : goal.returns-in_err-checker-clause-err
returns-in_err-checker-clause-err g c =
    let bytes = left_of Cert (g.D.Desk.state c.args.desk.now) in
    let e = c.in_err-checker.field-0.0 in
    let r = passed_on c.from_residual-in_err-checker.result e c.from_residual-in_err-checker.ensures.1 in
    rw r (λ tells. elim c.in_err-checker.ensures.err [
      | inl memory ↦ inl memory
      | inr large ↦ inr (verified-large c.args.system.now c.args.version c.args.header.now c.subject_from-subject.result bytes e c.subject_from-subject.ensures.value large.0 large.1)
    ])

pub returns-clause-err : goal.returns-clause-err
returns-clause-err g c =
    let f = c.args.system.now in
    let h = c.args.header.now in
    let bytes = left_of Cert (g.D.Desk.state c.args.desk.now) in
    let s = c.subject_from-subject.result in
    let idle = c.in_ok-checker.checker in
    let opening = c.opening-checker.result in
    let lines = c.in_ok-lines.lines in
    let opened = formula_opened f c.args.version h s idle opening c.subject_from-subject.ensures.value c.in_ok-checker.ensures.ok c.opening-checker.ensures.rule c.opening-checker.ensures.vars c.opening-checker.ensures.database in
    let small : opening.vars ≤ MOST_VARS = subst (λ (n : ℕ). n ≤ MOST_VARS) (sym c.opening-checker.ensures.vars) c.in_ok-checker.ensures.small in
    IfErr-weaker c.check_proof-verified.result _ _ (λ e told tells. cert_or_memory e (λ _ fault. verified-small f c.args.version h (checking_of opening) lines.number lines.unread bytes opened small c.in_ok-lines.ensures.number c.in_ok-lines.ensures.unread ∙ fault) (told tells)) c.check_proof-verified.ensures.err

pub returns-clause-ok : goal.returns-clause-ok
returns-clause-ok g c = IfOk-weaker c.check_proof-verified.result _ _ (λ _ ok tells.
    let f = c.args.system.now in
    let h = c.args.header.now in
    let bytes = left_of Cert (g.D.Desk.state c.args.desk.now) in
    let s = c.subject_from-subject.result in
    let idle = c.in_ok-checker.checker in
    let opening = c.opening-checker.result in
    let lines = c.in_ok-lines.lines in
    let opened = formula_opened f c.args.version h s idle opening c.subject_from-subject.ensures.value c.in_ok-checker.ensures.ok c.opening-checker.ensures.rule c.opening-checker.ensures.vars c.opening-checker.ensures.database in
    let small : opening.vars ≤ MOST_VARS = subst (λ (n : ℕ). n ≤ MOST_VARS) (sym c.opening-checker.ensures.vars) c.in_ok-checker.ensures.small in
    verified-small f c.args.version h (checking_of opening) lines.number lines.unread bytes opened small c.in_ok-lines.ensures.number c.in_ok-lines.ensures.unread ∙ ok tells) c.check_proof-verified.ensures.ok

pub returns-clause-shows : goal.returns-clause-shows
returns-clause-shows g c =
    let f = c.args.system.now in
    let h = c.args.header.now in
    let s = c.subject_from-subject.result in
    let idle = c.in_ok-checker.checker in
    let opening = c.opening-checker.result in
    let opened = formula_opened f c.args.version h s idle opening c.subject_from-subject.ensures.value c.in_ok-checker.ensures.ok c.opening-checker.ensures.rule c.opening-checker.ensures.vars c.opening-checker.ensures.database in
    IfOk-weaker c.check_proof-verified.result _ _ (λ _ shows. shows f h (opened_known f c.args.version h s (checking_of opening) c.subject_from-subject.ensures.value c.subject_from-subject.ensures.fits opened)) c.check_proof-verified.ensures.shows
