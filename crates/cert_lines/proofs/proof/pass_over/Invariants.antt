use Rattle.std.proofs.Common.{◌≡◌, ◌+◌, ◌-◌, ◌<◌, ◌≤◌, ◌++◌, List, ℕ, length, false, true, IsTrue, if◌then◌else◌}
use Rattle.desk_io.specs.State.{left_of, with_left}
use Rattle.desk_io.specs.declared.Which.TheVariants.{Cert}
use Rattle.cert_lines.specs.Steps.{is_comment, is_wordless}
use Rattle.cert_lines.specs.Taking.{goes_on, TookLine}
use Rattle.cert_lines.specs.declared.lines.TheConstants.{MAX_LINES, MAX_LINE_BYTES}
use Rattle.cert_lines.proofs.proof.pass_over.Given as goal

abbrev pub invariant-parts : goal.invariant-parts
invariant-parts g l = record {
  line : (blanks : List ℕ) × (l.is_comment ≡ false → is_wordless blanks ≡ true) × (is_comment (blanks ++ l.lines.part) ≡ l.is_comment) × (goes_on l.end ≡ true → 0 < length (blanks ++ l.lines.part))
      × TookLine g.D.Desk.tells l.fn.lines.number (l.fn.lines.unread ++ left_of Cert (g.D.Desk.state l.fn.desk)) (blanks ++ l.lines.part) l.end l.lines (left_of Cert (g.D.Desk.state l.desk));
  few : goes_on l.end ≡ true → l.lines.number ≤ MAX_LINES;
  rest : IsTrue g.D.Desk.tells → g.D.Desk.state l.desk ≡ with_left Cert (left_of Cert (g.D.Desk.state l.desk)) (g.D.Desk.state l.fn.desk);
  writes : (g.D.Desk.faults l.desk).writes ≡ (g.D.Desk.faults l.fn.desk).writes;
  reads : (g.D.Desk.faults l.desk).reads ≡ (g.D.Desk.faults l.fn.desk).reads;
}

abbrev pub decreases-parts : goal.decreases-parts
decreases-parts g l = if goes_on l.end then 1 + (MAX_LINE_BYTES - l.lines.taken) else 0
