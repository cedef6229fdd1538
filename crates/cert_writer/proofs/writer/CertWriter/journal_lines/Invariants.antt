use Rattle.std.proofs.Common.{◌≡◌, ◌++◌, List, map, length}
use Rattle.enumeration_journal.specs.Journals.{JournalLine}
use Rattle.cert_writer.specs.Texts.{joined, journal_line}
use Rattle.cert_writer.specs.Writing.{Writes}
use Rattle.cert_writer.proofs.writer.CertWriter.journal_lines.Given as goal

abbrev pub invariant-each : goal.invariant-each
invariant-each g l = record {
  done : List JournalLine;
  whole : done ++ l.lines ≡ l.journal;
  writes : Writes g.D.Desk.tells (joined (map (journal_line l.names) done)) l.fn.self (g.D.Desk.state l.fn.desk) (g.D.Desk.faults l.fn.desk) l.self (g.D.Desk.state l.desk) (g.D.Desk.faults l.desk);
}

abbrev pub decreases-each : goal.decreases-each
decreases-each g l = length l.lines
