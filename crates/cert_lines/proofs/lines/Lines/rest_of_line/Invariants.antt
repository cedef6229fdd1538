use Rattle.std.proofs.Common.{◌≡◌, ◌+◌, ◌-◌, ◌≤◌, ◌++◌, List, ℕ, true, IsTrue, if◌then◌else◌}
use Rattle.desk_io.specs.State.{left_of, with_left}
use Rattle.desk_io.specs.declared.Which.TheVariants.{Cert}
use Rattle.cert_lines.specs.Taking.{goes_on, TookLine}
use Rattle.cert_lines.specs.declared.lines.TheConstants.{MAX_LINES, MAX_LINE_BYTES}
use Rattle.cert_lines.proofs.lines.Lines.rest_of_line.Given as goal

abbrev pub invariant-parts : goal.invariant-parts
invariant-parts g l = record {
  line : (suffix : List ℕ) × (l.text.items ≡ l.fn.text.items ++ (l.fn.self.part ++ suffix))
      × ((n : ℕ) (before bytes : List ℕ) → TookLine g.D.Desk.tells n before bytes l.fn.first l.fn.self (left_of Cert (g.D.Desk.state l.fn.desk)) → TookLine g.D.Desk.tells n before (bytes ++ suffix) l.end l.self (left_of Cert (g.D.Desk.state l.desk)));
  few : goes_on l.end ≡ true → l.self.number ≤ MAX_LINES;
  rest : IsTrue g.D.Desk.tells → g.D.Desk.state l.desk ≡ with_left Cert (left_of Cert (g.D.Desk.state l.desk)) (g.D.Desk.state l.fn.desk);
  writes : (g.D.Desk.faults l.desk).writes ≡ (g.D.Desk.faults l.fn.desk).writes;
  reads : (g.D.Desk.faults l.desk).reads ≡ (g.D.Desk.faults l.fn.desk).reads;
}

abbrev pub decreases-parts : goal.decreases-parts
decreases-parts g l = if goes_on l.end then 1 + (MAX_LINE_BYTES - l.self.taken) else 0
