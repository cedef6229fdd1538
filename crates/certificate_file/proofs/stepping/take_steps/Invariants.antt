use Rattle.std.proofs.Common.{◌≡◌, ◌+◌, ◌-◌, ◌++◌, ◌≤◌, None, IsTrue}
use Rattle.desk_io.specs.State.{left_of, with_left}
use Rattle.desk_io.specs.declared.Which.TheVariants.{Cert}
use Rattle.fbas_model.specs.Systems.{System}
use Rattle.cert_lines.specs.Lines.{lines_of}
use Rattle.cert_lines.specs.declared.lines.TheConstants.{MAX_LINES}
use Rattle.certificate_file.specs.declared.given.Given.{Given}
use Rattle.certificate_file.specs.Acceptance.{check_lines}
use Rattle.certificate_file.specs.Known.{IsKnown}
use Rattle.certificate_file.specs.Streamed.{place_of, checking_of}
use Rattle.certificate_file.specs.declared.places.State.TheVariants.{Going}
use Rattle.certificate_file.proofs.stepping.take_steps.Given as goal

abbrev pub invariant-steps : goal.invariant-steps
invariant-steps g l = record {
  closed : l.checker.open_addition ≡ None;
  taken : l.lines.taken ≡ 0;
  number : l.fn.lines.number ≤ l.lines.number;
  known : (f : System) (given : Given) → IsKnown f given (place_of l.proof (checking_of l.fn.checker) l.fn.units) → IsKnown f given (place_of l.proof (checking_of l.checker) l.units);
  same : IsTrue g.D.Desk.tells → (f : System) (given : Given) → check_lines f given l.fn.lines.number (Going (place_of l.proof (checking_of l.fn.checker) l.fn.units)) (lines_of (l.fn.lines.unread ++ left_of Cert (g.D.Desk.state l.fn.desk))) ≡ check_lines f given l.lines.number (Going (place_of l.proof (checking_of l.checker) l.units)) (lines_of (l.lines.unread ++ left_of Cert (g.D.Desk.state l.desk)));
  rest : IsTrue g.D.Desk.tells → g.D.Desk.state l.desk ≡ with_left Cert (left_of Cert (g.D.Desk.state l.desk)) (g.D.Desk.state l.fn.desk);
  writes : (g.D.Desk.faults l.desk).writes ≡ (g.D.Desk.faults l.fn.desk).writes;
  reads : (g.D.Desk.faults l.desk).reads ≡ (g.D.Desk.faults l.fn.desk).reads;
}

abbrev pub decreases-steps : goal.decreases-steps
decreases-steps g l = MAX_LINES + 1 - l.lines.number
