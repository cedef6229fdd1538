use Rattle.std.proofs.Common.{◌≡◌, ◌+◌, ◌-◌, ◌++◌, Some, None, IsTrue}
use Rattle.desk_io.specs.State.{left_of, with_left}
use Rattle.desk_io.specs.declared.Which.TheVariants.{Cert}
use Rattle.fbas_model.specs.Systems.{System}
use Rattle.cert_lines.specs.Texts.{texts_of}
use Rattle.cert_lines.specs.declared.lines.TheConstants.{MAX_LINES}
use Rattle.certificate_file.specs.Known.{AreSteps}
use Rattle.certificate_file.specs.Streamed.{checking_of}
use Rattle.certificate_file.specs.Verification.{proof_lines}
use Rattle.certificate_file.specs.declared.places.Header.{Header}
use Rattle.certificate_file.proofs.verification.check_proof.Given as goal

abbrev pub invariant-lines : goal.invariant-lines
invariant-lines g l = record {
  closed : l.checker.open_addition ≡ None;
  taken : l.lines.taken ≡ 0;
  known : (f : System) (h : Header) → AreSteps f h (checking_of l.fn.checker) → AreSteps f h (checking_of l.checker);
  same : IsTrue g.D.Desk.tells → proof_lines l.fn.lines.number (Some (checking_of l.fn.checker)) (texts_of (l.fn.lines.unread ++ left_of Cert (g.D.Desk.state l.fn.desk))) ≡ proof_lines l.lines.number (Some (checking_of l.checker)) (texts_of (l.lines.unread ++ left_of Cert (g.D.Desk.state l.desk)));
  rest : IsTrue g.D.Desk.tells → g.D.Desk.state l.desk ≡ with_left Cert (left_of Cert (g.D.Desk.state l.desk)) (g.D.Desk.state l.fn.desk);
  writes : (g.D.Desk.faults l.desk).writes ≡ (g.D.Desk.faults l.fn.desk).writes;
  reads : (g.D.Desk.faults l.desk).reads ≡ (g.D.Desk.faults l.fn.desk).reads;
}

abbrev pub decreases-lines : goal.decreases-lines
decreases-lines g l = MAX_LINES + 1 - l.lines.number
