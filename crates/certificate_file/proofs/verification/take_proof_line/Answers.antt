use Rattle.std.proofs.Common.{rules, ◌≡◌, ℕ, ◌++◌, Some, Err, inl, inr, refl, sym, ap, ◌∙◌, subst}
use Rattle.desk_io.specs.State.{left_of}
use Rattle.desk_io.specs.declared.Which.TheVariants.{Cert}
use Rattle.lrat_checker.specs.Checking.{Stepping}
use Rattle.cert_lines.specs.Texts.{texts_of}
use Rattle.cert_lines.specs.declared.faults.CertError.TheVariants.{NotRefuted}
use Rattle.cert_lines.proofs.Ends.{cert_or_memory, passed_on}
use Rattle.certificate_file.specs.Streamed.{checking_of}
use Rattle.certificate_file.specs.Known.{AreSteps}
use Rattle.certificate_file.specs.Verification.{after_lemma, proof_lines}
use Rattle.certificate_file.proofs.VerificationLaws.{line_known, proof_lines-taken, proof_lines-refused, proof_lines-ended, proof_lines-bad, proof_line-read, proof_line-passed}
use Rattle.certificate_file.proofs.Desks.{fails_as, fails_on, fails_faulty, same_fault, not_read, not_faulty}
use Rattle.certificate_file.proofs.verification.take_proof_line.Goals as goal

pub returns-in_err-proof_line : goal.returns-in_err-proof_line
returns-in_err-proof_line g c =
    let l = c.args.lines.now.number in
    let now = checking_of c.args.checker.now in
    let texts = texts_of (c.args.lines.now.unread ++ left_of Cert (g.D.Desk.state c.args.desk.now)) in
    let failed = c.in_err-proof_line.ensures in
    let e = c.in_err-proof_line.field-0.0 in
    let r : c.from_residual.result ≡ Err e = search rules in
    rw r (record {
      closed = tt;
      known = tt;
      ok = tt;
      few = tt;
      number = tt;
      taken = tt;
      err = λ tells. cert_or_memory e (proof_lines-bad l now texts) (failed.err tells);
      plain = λ is. failed.plain (same_fault e is);
      rest = failed.rest;
      faults = fails_on (g.D.Desk.faults c.args.desk.now) (g.D.Desk.faults c.args.desk.now) (g.D.Desk.faults c.proof_line.new.desk) e refl refl failed.faults;
    })

pub returns-in-End-clause-err : goal.returns-in-End-clause-err
returns-in-End-clause-err g c = λ tells.
    let l = c.args.lines.now.number in
    let now = checking_of c.args.checker.now in
    let texts = texts_of (c.args.lines.now.unread ++ left_of Cert (g.D.Desk.state c.args.desk.now)) in
    let reads = c.in_ok-proof_line.ensures.end (rw c.in-End.is refl) tells in
    inr (proof_lines-ended l now texts reads ∙ ap (λ (n : ℕ). Err (NotRefuted n)) (sym c.number-line.ensures))

pub returns-in_err-progress-in-Step : goal.returns-in_err-progress-in-Step
returns-in_err-progress-in-Step g c =
    let l = c.args.lines.now.number in
    let now = checking_of c.args.checker.now in
    let texts = texts_of (c.args.lines.now.unread ++ left_of Cert (g.D.Desk.state c.args.desk.now)) in
    let more = texts_of (c.proof_line.new.lines.unread ++ left_of Cert (g.D.Desk.state c.proof_line.new.desk)) in
    let read = c.in_ok-proof_line.ensures in
    let told = read.step (rw c.in-Step.is refl) in
    let failed = c.in_err-progress-in-Step.ensures in
    let e = c.in_err-progress-in-Step.field-0.0 in
    let r = passed_on c.from_residual-in_err-progress-in-Step.result e c.from_residual-in_err-progress-in-Step.ensures.1 in
    rw r (record {
      closed = tt;
      known = tt;
      ok = tt;
      few = tt;
      number = tt;
      taken = tt;
      err = λ tells. elim failed.err [
        | inl memory ↦ inl memory
        | inr fault ↦ inr (
            proof_lines-refused l now texts more told.0 e (told.2 tells)
            (proof_line-read c.args.checker.now c.proof_line.new.checker l c.number-line.result c.proof_line.new.reader.words told.0 (Err e)
            read.rule read.vars read.database c.number-line.ensures told.1 told.3 fault))
      ];
      plain = λ is. absurd (not_faulty e is);
      rest = read.rest;
      faults = fails_faulty (g.D.Desk.faults c.args.desk.now) (g.D.Desk.faults c.args.desk.now) (g.D.Desk.faults c.proof_line.new.desk) _ e refl refl read.faults;
    })

pub returns-in-Passed-clause-ok : goal.returns-in-Passed-clause-ok
returns-in-Passed-clause-ok g c = λ tells.
    let l = c.args.lines.now.number in
    let now = checking_of c.args.checker.now in
    let texts = texts_of (c.args.lines.now.unread ++ left_of Cert (g.D.Desk.state c.args.desk.now)) in
    let more = texts_of (c.proof_line.new.lines.unread ++ left_of Cert (g.D.Desk.state c.proof_line.new.desk)) in
    let told = c.in_ok-proof_line.ensures.passed (rw c.in-Passed.is refl) in
    let same = c.in_ok-proof_line.ensures.same (rw c.in-Passed.is refl) in
    let next = c.in_ok-proof_line.ensures.number (rw c.in-Passed.is (λ e. cc)) in
    proof_lines-taken l now texts more told.0 (Some now) (told.2 tells) (proof_line-passed now l told.0 told.1)
    ∙ ap (λ (n : ℕ). proof_lines n (Some now) more) (sym next)
    ∙ ap (λ (x : Stepping). proof_lines c.proof_line.new.lines.number (Some (checking_of x)) more) (sym same)

pub returns-in-Passed-clause-known : goal.returns-in-Passed-clause-known
returns-in-Passed-clause-known g c = λ f h k. subst (λ (x : Stepping). AreSteps f h (checking_of x)) (sym (c.in_ok-proof_line.ensures.same (rw c.in-Passed.is refl))) k

pub returns-in_ok-progress-in-Step-clause-ok : goal.returns-in_ok-progress-in-Step-clause-ok
returns-in_ok-progress-in-Step-clause-ok g c = λ tells.
    let l = c.args.lines.now.number in
    let now = checking_of c.args.checker.now in
    let texts = texts_of (c.args.lines.now.unread ++ left_of Cert (g.D.Desk.state c.args.desk.now)) in
    let more = texts_of (c.proof_line.new.lines.unread ++ left_of Cert (g.D.Desk.state c.proof_line.new.desk)) in
    let told = c.in_ok-proof_line.ensures.step (rw c.in-Step.is refl) in
    let next = c.in_ok-proof_line.ensures.number (rw c.in-Step.is (λ e. cc)) in
    let left = after_lemma (checking_of c.finish.new.checker) c.in_ok-progress-in-Step.progress in
    proof_lines-taken l now texts more told.0 left (told.2 tells)
    (proof_line-read c.args.checker.now c.proof_line.new.checker l c.number-line.result c.proof_line.new.reader.words told.0 _
    c.in_ok-proof_line.ensures.rule c.in_ok-proof_line.ensures.vars c.in_ok-proof_line.ensures.database c.number-line.ensures told.1 told.3 c.in_ok-progress-in-Step.ensures.ok)
    ∙ ap (λ (n : ℕ). proof_lines n left more) (sym next)

pub returns-in_ok-progress-in-Step-clause-known : goal.returns-in_ok-progress-in-Step-clause-known
returns-in_ok-progress-in-Step-clause-known g c = λ f h k.
    let l = c.args.lines.now.number in
    let told = c.in_ok-proof_line.ensures.step (rw c.in-Step.is refl) in
    line_known f h l (checking_of c.args.checker.now) told.0 (after_lemma (checking_of c.finish.new.checker) c.in_ok-progress-in-Step.progress) k
    (proof_line-read c.args.checker.now c.proof_line.new.checker l c.number-line.result c.proof_line.new.reader.words told.0 _
    c.in_ok-proof_line.ensures.rule c.in_ok-proof_line.ensures.vars c.in_ok-proof_line.ensures.database c.number-line.ensures told.1 told.3 c.in_ok-progress-in-Step.ensures.ok)

pub returns-in-End-clause-faults : goal.returns-in-End-clause-faults
returns-in-End-clause-faults g c = fails_as (g.D.Desk.faults c.args.desk.now) (g.D.Desk.faults c.proof_line.new.desk) _ _ (λ is. absurd (not_read is)) (λ is. absurd cc) c.in_ok-proof_line.ensures.faults

pub returns-in-Passed-clause-faults : goal.returns-in-Passed-clause-faults
returns-in-Passed-clause-faults g c = fails_as (g.D.Desk.faults c.args.desk.now) (g.D.Desk.faults c.proof_line.new.desk) _ _ (λ is. absurd (not_read is)) (λ is. absurd (not_read is)) c.in_ok-proof_line.ensures.faults

pub returns-in_ok-progress-in-Step-clause-faults : goal.returns-in_ok-progress-in-Step-clause-faults
returns-in_ok-progress-in-Step-clause-faults g c = fails_as (g.D.Desk.faults c.args.desk.now) (g.D.Desk.faults c.proof_line.new.desk) _ _ (λ is. absurd (not_read is)) (λ is. absurd (not_read is)) c.in_ok-proof_line.ensures.faults

pub returns-in-Passed-clause-few : goal.returns-in-Passed-clause-few
returns-in-Passed-clause-few g c = c.in_ok-proof_line.ensures.few (rw c.in-Passed.is (λ e. cc))

pub returns-in-Passed-clause-number : goal.returns-in-Passed-clause-number
returns-in-Passed-clause-number g c = c.in_ok-proof_line.ensures.number (rw c.in-Passed.is (λ e. cc))

pub returns-in-Passed-clause-taken : goal.returns-in-Passed-clause-taken
returns-in-Passed-clause-taken g c = c.in_ok-proof_line.ensures.taken (rw c.in-Passed.is (λ e. cc))

pub returns-in_ok-progress-in-Step-clause-few : goal.returns-in_ok-progress-in-Step-clause-few
returns-in_ok-progress-in-Step-clause-few g c = c.in_ok-proof_line.ensures.few (rw c.in-Step.is (λ e. cc))

pub returns-in_ok-progress-in-Step-clause-number : goal.returns-in_ok-progress-in-Step-clause-number
returns-in_ok-progress-in-Step-clause-number g c = c.in_ok-proof_line.ensures.number (rw c.in-Step.is (λ e. cc))

pub returns-in_ok-progress-in-Step-clause-taken : goal.returns-in_ok-progress-in-Step-clause-taken
returns-in_ok-progress-in-Step-clause-taken g c = c.in_ok-proof_line.ensures.taken (rw c.in-Step.is (λ e. cc))

pub returns-in-End-clause-ok : goal.returns-in-End-clause-ok
returns-in-End-clause-ok g c = tt

pub returns-in-End-clause-known : goal.returns-in-End-clause-known
returns-in-End-clause-known g c = tt
