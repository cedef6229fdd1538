use Rattle.std.proofs.Common.{◌≡◌, ◌+◌, ◌-◌, ◌≤◌, ◌++◌, [], List, ℕ, true, false, IsTrue, if◌then◌else◌}
use Rattle.desk_io.specs.State.{left_of, with_left}
use Rattle.desk_io.specs.declared.Which.TheVariants.{Cert}
use Rattle.lrat_text.specs.Words.{words_of}
use Rattle.lrat_text.specs.Lines.{step_in}
use Rattle.lrat_stream.specs.Outline.{outline_in}
use Rattle.lrat_stream.specs.Ahead.{ahead, Fits}
use Rattle.lrat_stream.specs.Solid.{IsSolid}
use Rattle.cert_lines.specs.Taking.{goes_on, TookLine}
use Rattle.cert_lines.specs.declared.lines.TheConstants.{MAX_LINES, MAX_LINE_BYTES}
use Rattle.cert_lines.proofs.steps.read_step.Given as goal

abbrev pub invariant-parts : goal.invariant-parts
invariant-parts g l = record {
  suffix : (suffix : List ℕ) × (goes_on l.fn.first ≡ false → (suffix ≡ []) × (goes_on l.end ≡ false))
      × ((n : ℕ) (before bytes : List ℕ) → TookLine g.D.Desk.tells n before bytes l.fn.first l.fn.lines (left_of Cert (g.D.Desk.state l.fn.desk)) → TookLine g.D.Desk.tells n before (bytes ++ suffix) l.end l.lines (left_of Cert (g.D.Desk.state l.desk)))
      × ((more : List ℕ) → outline_in l.fn.checker.rule l.fn.checker.vars l.fn.checker.database (step_in (l.fn.lines.part ++ (suffix ++ more)))
      ≡ ahead l.fn.checker.rule l.fn.checker.vars l.fn.checker.database l.reader.words l.checker.open_addition (words_of (l.reader.begun.items ++ (l.lines.part ++ more))));
  few : goes_on l.end ≡ true → l.lines.number ≤ MAX_LINES;
  fits : Fits l.reader.words l.checker.open_addition;
  solid : IsSolid l.reader.begun.items;
  database : l.checker.database ≡ l.fn.checker.database;
  rule : l.checker.rule ≡ l.fn.checker.rule;
  vars : l.checker.vars ≡ l.fn.checker.vars;
  rest : IsTrue g.D.Desk.tells → g.D.Desk.state l.desk ≡ with_left Cert (left_of Cert (g.D.Desk.state l.desk)) (g.D.Desk.state l.fn.desk);
  writes : (g.D.Desk.faults l.desk).writes ≡ (g.D.Desk.faults l.fn.desk).writes;
  reads : (g.D.Desk.faults l.desk).reads ≡ (g.D.Desk.faults l.fn.desk).reads;
}

abbrev pub decreases-parts : goal.decreases-parts
decreases-parts g l = if goes_on l.end then 1 + (MAX_LINE_BYTES - l.lines.taken) else 0
